use Rattle.std.proofs.Common.{◌≡◌, take}
use Rattle.cnf_clauses.proofs.decided.Decided.of_path.Given as goal

abbrev pub invariant-answers : goal.invariant-answers
invariant-answers l = l.decided ≡ take l.test-index l.test-items

use Rattle.std.proofs.Common.{take}
use Rattle.cnf_clauses.specs.Explains.{AreNeeded}
use Rattle.cnf_clauses.proofs.explaining.needed_answers.Given as goal

abbrev pub invariant-answers : goal.invariant-answers
invariant-answers l = AreNeeded (take l.test-index l.test-items) l.needed.items l.used

use Rattle.std.proofs.Common.{◌≡◌, true, take}
use Rattle.value_theory.specs.Solutions.{meets_clauses}
use Rattle.value_theory.proofs.search.meets_clauses.Given as goal

abbrev pub invariant-loop-clause : goal.invariant-loop-clause
invariant-loop-clause l = meets_clauses l.conds (take l.clause-index l.clauses) l.point ≡ true

use Rattle.std.proofs.Common.{take}
use Rattle.value_theory.specs.Clauses.{OnConditions}
use Rattle.value_theory.proofs.clause.are_in_range.Given as goal

abbrev pub invariant-loop-clause : goal.invariant-loop-clause
invariant-loop-clause l = OnConditions l.count (take l.clause-index l.clauses)

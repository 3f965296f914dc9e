use Rattle.std.proofs.Common.{◌≡◌, false, take}
use Rattle.value_theory.specs.Solutions.{meets_clause}
use Rattle.value_theory.proofs.search.meets_clause.Given as goal

abbrev pub invariant-loop-literal : goal.invariant-loop-literal
invariant-loop-literal l = meets_clause l.conds l.point (take l.literal-index l.literals) ≡ false

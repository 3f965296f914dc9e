use Rattle.std.proofs.Common.{◌≡◌, ◌++◌, take}
use Rattle.set_operators.specs.Wants.{listed_patterns}
use Rattle.set_operators.proofs.wants.push_values.Given as goal

abbrev pub invariant-loop-value : goal.invariant-loop-value
invariant-loop-value l = l.items ≡ l.initial.items ++ listed_patterns (take l.value-index l.listed)

use Rattle.std.proofs.Common.{◌≡◌}
use Rattle.policy_load.specs.Loads.{load_conditions}
use Rattle.policy_load.proofs.keys.load_conditions.Given as goal

abbrev pub invariant-loop-i : goal.invariant-loop-i
invariant-loop-i l = l.conditions ≡ load_conditions l.i

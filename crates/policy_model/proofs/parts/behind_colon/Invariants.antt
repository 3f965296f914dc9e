use Rattle.std.proofs.Common.{◌≡◌, drop}
use Rattle.policy_model.specs.Principals.{after_colon}
use Rattle.policy_model.proofs.parts.behind_colon.Given as goal

abbrev pub invariant-loop-i : goal.invariant-loop-i
invariant-loop-i l = after_colon l.chars ≡ after_colon (drop l.i l.chars)

use Rattle.std.proofs.Common.{length}
use Rattle.policy_model.proofs.parts.+behind_prefix.Given as goal

abbrev pub decreases-behind_prefix : goal.decreases-behind_prefix
decreases-behind_prefix l = length l.chars.now

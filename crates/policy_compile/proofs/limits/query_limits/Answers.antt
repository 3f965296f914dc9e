use Rattle.std.proofs.Common.{refl}
use Rattle.policy_compile.proofs.limits.query_limits.Goals as goal

pub returns : goal.returns
returns c = (refl, refl, refl)

use Rattle.std.proofs.Common.{refl}
use Rattle.strata.proofs.meaning.strata_limits.Goals as goal

pub returns : goal.returns
returns c = refl

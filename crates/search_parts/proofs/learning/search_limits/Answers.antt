use Rattle.std.proofs.Common.{refl}
use Rattle.search_parts.proofs.learning.search_limits.Goals as goal

pub returns : goal.returns
returns c = refl

-- The search finds this unasked; asked for here, a wrong body is refused without a longer search.
use Rattle.std.proofs.Common.{rules}
use Rattle.strata.proofs.kept.is_same.Goals as goal

pub returns-then-below : goal.returns-then-below
returns-then-below c = search rules

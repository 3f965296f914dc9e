-- The search finds this unasked; asked for here, a wrong body is refused without a longer search.
use Rattle.std.proofs.Common.{rules}
use Rattle.strata.proofs.rows.is_maximal_below.Goals as goal

pub returns-then-is_strictly_below : goal.returns-then-is_strictly_below
returns-then-is_strictly_below c = search rules

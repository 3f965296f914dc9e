-- The search finds this unasked; asked for here, a wrong body is refused without a longer search.
use Rattle.std.proofs.Common.{rules}
use Rattle.strata.proofs.asking.settled.Goals as goal

pub returns-in-No : goal.returns-in-No
returns-in-No c = search rules

-- The search finds this unasked; asked for here, a wrong body is refused without a longer search.
use Rattle.std.proofs.Common.{rules}
use Rattle.summary_search.proofs.inclusion.opposite_answer.Goals as goal

pub returns-in-Yes : goal.returns-in-Yes
returns-in-Yes c = search rules

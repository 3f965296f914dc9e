-- The search finds this unasked; asked for here, a wrong body is refused without a longer search.
use Rattle.std.proofs.Common.{rules}
use Rattle.summary_search.proofs.finding.find_summary.Goals as goal

pub returns-in-Err-TooManyPredicates : goal.returns-in-Err-TooManyPredicates
returns-in-Err-TooManyPredicates c = search rules

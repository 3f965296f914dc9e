-- The search finds this unasked; asked for here, a wrong body is refused without a longer search.
use Rattle.std.proofs.Common.{rules}
use Rattle.request_schema.proofs.requirement.is_whole.Goals as goal

pub returns-in-Some : goal.returns-in-Some
returns-in-Some c = search rules

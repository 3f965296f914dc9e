-- The search finds this unasked; asked for here, a wrong body is refused without a longer search.
use Rattle.std.proofs.Common.{rules}
use Rattle.set_questions.proofs.asking.directed_query.Goals as goal

pub returns-else-allow : goal.returns-else-allow
returns-else-allow c = search rules

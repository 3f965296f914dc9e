-- The search finds this unasked; asked for here, a wrong body is refused without a longer search.
use Rattle.std.proofs.Common.{rules}
use Rattle.idle_answers.proofs.deciding.answer_by.Goals as goal

pub returns-in-OutOfSplits : goal.returns-in-OutOfSplits
returns-in-OutOfSplits c = search rules

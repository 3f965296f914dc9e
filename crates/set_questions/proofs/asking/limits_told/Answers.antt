-- The search finds this unasked; asked for here, a wrong body is refused without a longer search.
use Rattle.std.proofs.Common.{rules}
use Rattle.set_questions.proofs.asking.limits_told.Goals as goal

pub returns-in-Err-TooManyTests : goal.returns-in-Err-TooManyTests
returns-in-Err-TooManyTests c = search rules

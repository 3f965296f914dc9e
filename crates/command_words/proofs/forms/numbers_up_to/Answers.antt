-- The search finds this unasked; asked for here, a wrong body is refused without a longer search.
use Rattle.std.proofs.Common.{rules}
use Rattle.command_words.proofs.forms.numbers_up_to.Goals as goal

pub returns : goal.returns
returns c = search rules

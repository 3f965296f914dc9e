-- The search finds this unasked; asked for here, a wrong body is refused without a longer search.
use Rattle.std.proofs.Common.{rules}
use Rattle.command_words.specs.Forms.{check_form}
use Rattle.command_words.proofs.forms.check_form.Goals as goal

pub returns : goal.returns
unfolding check_form
returns c = search rules

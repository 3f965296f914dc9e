use Rattle.set_questions.proofs.Using.{change-asks}
use Rattle.set_questions.proofs.meaning.changes_ask_as_the_set.Goals as goal

pub returns : goal.returns
returns c = change-asks

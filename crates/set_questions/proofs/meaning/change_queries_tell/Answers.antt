use Rattle.set_questions.proofs.Using.{change-tells}
use Rattle.set_questions.proofs.meaning.change_queries_tell.Goals as goal

pub returns : goal.returns
returns c = change-tells

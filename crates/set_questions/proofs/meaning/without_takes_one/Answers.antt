use Rattle.set_questions.proofs.Taking.{takes-one}
use Rattle.set_questions.proofs.meaning.without_takes_one.Goals as goal

pub returns : goal.returns
returns c = takes-one

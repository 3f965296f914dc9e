use Rattle.set_questions.proofs.Twins.{twins-idle}
use Rattle.set_questions.proofs.meaning.twins_are_idle.Goals as goal

pub returns : goal.returns
returns c = twins-idle

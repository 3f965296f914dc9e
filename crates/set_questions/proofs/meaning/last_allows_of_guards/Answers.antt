use Rattle.set_questions.proofs.Twins.{last-allows}
use Rattle.set_questions.proofs.meaning.last_allows_of_guards.Goals as goal

pub returns : goal.returns
returns c = last-allows

use Rattle.value_theory.proofs.Meets.{Decides-plain_meets}
use Rattle.value_theory.proofs.meaning.meets_is_meaning.Goals as goal

pub returns : goal.returns
returns c = Decides-plain_meets

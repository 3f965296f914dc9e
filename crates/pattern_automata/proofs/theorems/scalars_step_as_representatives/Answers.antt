use Rattle.pattern_automata.proofs.Empty.{representative}
use Rattle.pattern_automata.proofs.theorems.scalars_step_as_representatives.Goals as goal

pub returns : goal.returns
returns c = representative

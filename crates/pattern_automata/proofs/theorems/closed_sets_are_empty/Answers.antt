use Rattle.pattern_automata.proofs.Laws.{closed_sets_are_empty}
use Rattle.pattern_automata.proofs.theorems.closed_sets_are_empty.Goals as goal

pub returns : goal.returns
returns c = closed_sets_are_empty

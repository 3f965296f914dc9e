use Rattle.pattern_automata.proofs.Wanting.{meets-tested}
use Rattle.pattern_automata.proofs.theorems.meets_is_tested.Goals as goal

pub returns : goal.returns
returns c = meets-tested

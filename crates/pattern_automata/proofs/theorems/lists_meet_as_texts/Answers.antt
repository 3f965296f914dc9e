use Rattle.pattern_automata.proofs.Empty.{meets-of}
use Rattle.pattern_automata.proofs.theorems.lists_meet_as_texts.Goals as goal

pub returns : goal.returns
returns c = meets-of

use Rattle.pattern_automata.proofs.Telling.{set-bit}
use Rattle.pattern_automata.proofs.named.with_bit.Goals as goal

pub returns : goal.returns
returns c = λ i. set-bit c.args.word c.args.bit i c.requires

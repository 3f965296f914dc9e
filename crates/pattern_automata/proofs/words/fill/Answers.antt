use Rattle.std.proofs.Common.{refl}
use Rattle.pattern_automata.proofs.Bits.{fill-more, fill-fixed}
use Rattle.pattern_automata.proofs.words.fill.Goals as goal

pub loop-round-preserved : goal.loop-round-preserved
loop-round-preserved c = fill-more c.args.set c.args.leads c.loop-round.word c.args.first _ c.shifted.result _ c.shifted.ensures refl c.loop-round.invariant

pub returns-then-next-word : goal.returns-then-next-word
returns-then-next-word c = fill-fixed c.args.set c.args.leads c.loop-round.word c.args.first _ c.shifted.result c.shifted.ensures refl c.if-next-word.true

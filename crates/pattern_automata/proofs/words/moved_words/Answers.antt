use Rattle.std.proofs.Common.{ap, arith, length}
use Rattle.pattern_automata.specs.Steps.{masked_at}
use Rattle.pattern_automata.proofs.Patching.{moved-more}
use Rattle.pattern_automata.proofs.words.moved_words.Goals as goal

pub loop-index-preserved : goal.loop-index-preserved
loop-index-preserved c =
    let w = c.loop-index.invariant in
    moved-more (masked_at c.args.masks.now c.args.state.now) c.loop-index.index c.loop-index.moved.items _ c.masked_word.result w.0 w.1 c.masked_word.ensures c.in_ok-push.ensures.items

pub loop-index-init : goal.loop-index-init
loop-index-init c = (ap length c.clear.ensures.items, λ k b h. absurd (omega arith))

pub returns : goal.returns
returns c = record {
  count = omega (arith, c.loop-index.invariant.0, c.loop-index-test.false, c.loop-index.auto.index-end);
  marks = λ k b h l. c.loop-index.invariant.1 k b (omega (arith, c.loop-index-test.false)) l;
}

use Rattle.std.proofs.Common.{◌*◌, ap, arith, length}
use Rattle.std.proofs.lemmas.List.{length-drop}
use Rattle.pattern_automata.proofs.Bits.{packed-more, rest-more, packed-last}
use Rattle.pattern_automata.proofs.words.pack.Goals as goal

pub split_at-requires : goal.split_at-requires
split_at-requires c = omega (arith, ap length c.loop-block.invariant.1, length-drop (64 * c.loop-block.block) c.args.marks.now, c.loop-block-test.true)

pub word_with-requires : goal.word_with-requires
word_with-requires c = omega (arith, c.split_at.ensures.front_len)

pub word_with-requires-2 : goal.word_with-requires-2
word_with-requires-2 c = omega (arith, ap length c.loop-block.invariant.1, length-drop (64 * c.loop-block.block) c.args.marks.now, c.loop-block-test.false)

pub loop-block-preserved : goal.loop-block-preserved
loop-block-preserved c = (
  packed-more _ _ _ _ _ _ _ c.loop-block.invariant.0 c.loop-block.invariant.1 c.split_at.ensures.front c.word_with.ensures c.in_ok-push.ensures.items,
  rest-more c.loop-block.block c.args.marks.now _ _ c.loop-block.invariant.1 c.split_at.ensures.back,
)

pub returns : goal.returns
returns c = packed-last _ _ _ _ _ _ c.loop-block.invariant.0 c.loop-block.invariant.1 c.loop-block-test.false (omega (arith, c.loop-block.auto.block-end)) c.word_with-2.ensures c.in_ok-push-2.ensures.items

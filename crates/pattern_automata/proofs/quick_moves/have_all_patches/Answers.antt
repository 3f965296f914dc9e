use Rattle.std.proofs.Common.{arith}
use Rattle.pattern_automata.proofs.Proposing.{patches-next}
use Rattle.pattern_automata.proofs.quick_moves.have_all_patches.Goals as goal

pub loop-index-preserved : goal.loop-index-preserved
loop-index-preserved c =
    patches-next c.args.indices.now c.args.moves.now c.args.named.now c.loop-index.index c.index-named-index.result c.loop-index-test.true c.index-named-index.is
    (rw c.as_slice.ensures.value at (c.have_their_patches.ensures c.if-not-have_their_patches.false)) c.loop-index.invariant

pub returns : goal.returns
returns c = λ yes k d h. c.loop-index.invariant k d (omega (arith, h, c.loop-index-test.false))

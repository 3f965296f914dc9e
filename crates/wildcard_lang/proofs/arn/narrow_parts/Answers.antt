use Rattle.std.proofs.Common.{arith}
use Rattle.wildcard_lang.proofs.Narrow.{narrowed-next, narrowed-end}
use Rattle.wildcard_lang.proofs.arn.narrow_parts.Goals as goal

pub loop-piece-preserved : goal.loop-piece-preserved
loop-piece-preserved c =
    narrowed-next c.args.pieces.now c.loop-piece.parts.items _ c.loop-piece.piece-index c.loop-piece.left _ c.narrow_before.result _ c.loop-piece-test.true c.narrow_before.ensures c.colons_left-left.ensures c.in_ok-push.ensures.items c.loop-piece.invariant

pub returns : goal.returns
returns c = narrowed-end c.args.pieces.now c.loop-piece.parts.items c.loop-piece.piece-index c.loop-piece.left (omega (arith, c.loop-piece-test.false)) c.loop-piece.invariant

use Rattle.wildcard_lang.proofs.Neighbours.{bits-next}
use Rattle.wildcard_lang.proofs.marked.neighbour_bits.Goals as goal

pub pieces-preserved : goal.pieces-preserved
pieces-preserved c =
    bits-next c.args.pieces.now c.pieces.piece-index c.pieces.bits c.neighbour_bit-bits.result c.pieces.before c.folded_character-own.result _ c.pieces-test.true c.folded_character-own.ensures c.neighbour_bit-bits.ensures c.pieces.invariant

use Rattle.std.proofs.Common.{◌≡◌, drop, bit_or}
use Rattle.wildcard_lang.specs.Neighbours.{edge, neighbour_bits}
use Rattle.wildcard_lang.proofs.marked.neighbour_bits.Given as goal

abbrev pub invariant-pieces : goal.invariant-pieces
invariant-pieces l = bit_or l.bits (neighbour_bits l.before (drop l.piece-index l.pieces)) ≡ neighbour_bits edge l.pieces

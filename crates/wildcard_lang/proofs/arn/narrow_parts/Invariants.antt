use Rattle.std.proofs.Common.{◌≡◌, ◌++◌, drop}
use Rattle.wildcard_lang.specs.Arns.{narrowed_pieces}
use Rattle.wildcard_lang.proofs.arn.narrow_parts.Given as goal

abbrev pub invariant-loop-piece : goal.invariant-loop-piece
invariant-loop-piece l = l.parts.items ++ narrowed_pieces l.left (drop l.piece-index l.pieces) ≡ narrowed_pieces 5 l.pieces

use Rattle.std.proofs.Common.{◌≡◌, ◌≤◌, ◌+◌, drop}
use Rattle.wildcard_lang.specs.Arns.{colons}
use Rattle.wildcard_lang.proofs.arn.colons.Given as goal

abbrev pub invariant-loop-piece : goal.invariant-loop-piece
invariant-loop-piece l = record { so_far : l.found + colons (drop l.piece-index l.pieces) ≡ colons l.pieces; few : l.found ≤ l.piece-index }

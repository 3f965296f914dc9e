use Rattle.wildcard_lang.proofs.Covered.{same_pieces_cover}
use Rattle.wildcard_lang.proofs.covering.covers_pieces.Goals as goal

pub returns-then-eq : goal.returns-then-eq
returns-then-eq c = same_pieces_cover c.args.pieces.now c.args.others.now _ c.eq.ensures c.if-eq.true

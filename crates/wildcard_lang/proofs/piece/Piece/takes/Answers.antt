-- The search finds this unasked; asked for here, a wrong body is refused without a longer search.
use Rattle.std.proofs.Common.{rules}
use Rattle.wildcard_lang.proofs.piece.Piece.takes.Goals as goal

pub returns-in-OneNoColon : goal.returns-in-OneNoColon
returns-in-OneNoColon c = search rules

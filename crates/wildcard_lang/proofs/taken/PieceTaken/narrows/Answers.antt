use Rattle.wildcard_lang.proofs.Deciding.{pieces_narrow}
use Rattle.wildcard_lang.proofs.taken.PieceTaken.narrows.Goals as goal

pub returns : goal.returns
returns c = pieces_narrow

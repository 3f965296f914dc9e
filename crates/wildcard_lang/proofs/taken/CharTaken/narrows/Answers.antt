use Rattle.wildcard_lang.proofs.Deciding.{characters_narrow}
use Rattle.wildcard_lang.proofs.taken.CharTaken.narrows.Goals as goal

pub returns : goal.returns
returns c = characters_narrow

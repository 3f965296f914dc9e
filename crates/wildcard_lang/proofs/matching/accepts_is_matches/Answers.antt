use Rattle.wildcard_lang.proofs.Accept.{Decides-accepts}
use Rattle.wildcard_lang.proofs.matching.accepts_is_matches.Goals as goal

pub returns : goal.returns
returns c = Decides-accepts

use Rattle.wildcard_lang.proofs.Including.{covering-includes}
use Rattle.wildcard_lang.proofs.covering.covering_is_inclusion.Goals as goal

pub returns : goal.returns
returns c = covering-includes

use Rattle.wildcard_lang.proofs.Stepping.{widths-grow}
use Rattle.wildcard_lang.proofs.places.widths_grow.Goals as goal

pub returns : goal.returns
returns c = widths-grow

use Rattle.wildcard_lang.proofs.Including.{clashing-apart}
use Rattle.wildcard_lang.proofs.covering.clashing_is_disjoint.Goals as goal

pub returns : goal.returns
returns c = clashing-apart

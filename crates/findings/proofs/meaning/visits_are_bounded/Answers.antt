use Rattle.findings.proofs.Covering.{visits-bounded}
use Rattle.findings.proofs.meaning.visits_are_bounded.Goals as goal

pub returns : goal.returns
returns c = visits-bounded

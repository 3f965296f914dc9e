use Rattle.strata.proofs.Determined.{strata-determined}
use Rattle.strata.proofs.meaning.strata_are_determined.Goals as goal

pub returns : goal.returns
returns c = strata-determined

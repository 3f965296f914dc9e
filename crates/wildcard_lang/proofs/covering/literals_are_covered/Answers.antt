use Rattle.wildcard_lang.proofs.Including.{literals-covered}
use Rattle.wildcard_lang.proofs.covering.literals_are_covered.Goals as goal

pub returns : goal.returns
returns c = literals-covered

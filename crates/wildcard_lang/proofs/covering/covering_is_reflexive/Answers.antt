use Rattle.wildcard_lang.proofs.Including.{covers-itself, star-covers}
use Rattle.wildcard_lang.proofs.covering.covering_is_reflexive.Goals as goal

pub returns-clause-reflexive : goal.returns-clause-reflexive
returns-clause-reflexive c = covers-itself

pub returns-clause-star : goal.returns-clause-star
returns-clause-star c = star-covers

use Rattle.wildcard_lang.proofs.Fronts.{star_takes_rest}
use Rattle.wildcard_lang.proofs.matching.takes_rest.Goals as goal

pub returns-then-is_star : goal.returns-then-is_star
returns-then-is_star g c = star_takes_rest g.X.Taken.taken g.met.X.Taken.star _ _ (c.is_star.ensures.0 c.if-is_star.true)

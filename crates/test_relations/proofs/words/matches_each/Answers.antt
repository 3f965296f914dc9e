use Rattle.test_relations.proofs.Fitting.{covers-each, star-matches-each}
use Rattle.test_relations.proofs.words.matches_each.Goals as goal

pub returns-in-Some : goal.returns-in-Some
returns-in-Some c h = covers-each c.args.pattern.now c.in-Some.shape c.args.shape.now c.in-Some.is (c.covers.ensures.0 h)

pub returns-in-None : goal.returns-in-None
returns-in-None c h = star-matches-each c.args.pattern.now c.args.shape.now (c.is_star.ensures h)

use Rattle.cnf_clauses.proofs.LevelSteps.{trail-back}
use Rattle.cnf_clauses.proofs.following.Following.pop.Goals as goal

pub invariant_of-self : goal.invariant_of-self
invariant_of-self c =
    trail-back c.self.inside.clauses c.self.inside.path c.pop.new.self _ c.self.inside.trail c.take_back.new.trail c.pop.ensures.last c.pop.ensures.nonempty c.take_back.ensures.cut c.take_back.ensures.empty c.self.invariant

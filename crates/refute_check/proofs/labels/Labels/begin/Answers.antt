use Rattle.refute_check.proofs.Labelling.{below, indexed-begin}
use Rattle.refute_check.proofs.labels.Labels.begin.Goals as goal

pub returns-in_err-push-clause-below : goal.returns-in_err-push-clause-below
returns-in_err-push-clause-below c = rw (← c.self.view_is) (below c.self.inside.ended c.self.inside.indices.items c.self.invariant)

pub invariant_of-self-2 : goal.invariant_of-self-2
invariant_of-self-2 c = rw c.in_ok-push.ensures.items (indexed-begin c.self.inside.ended c.self.inside.indices.items c.self.invariant)

pub returns-clause-below : goal.returns-clause-below
returns-clause-below c = rw (← c.self.view_is) (below c.self.inside.ended c.self.inside.indices.items c.self.invariant)

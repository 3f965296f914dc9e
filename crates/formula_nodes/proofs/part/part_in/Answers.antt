use Rattle.std.proofs.Common.{ℕ, ◌<◌, subst}
use Rattle.formula_nodes.proofs.Standing.{length-trees, part-of-all, part-of-test}
use Rattle.formula_nodes.proofs.part.part_in.Goals as goal

pub bounds-nodes-claim : goal.bounds-nodes-claim
bounds-nodes-claim c = subst (λ (k : ℕ). c.args.claim.node < k) (length-trees c.args.nodes.now) c.requires.there

pub returns-in-Test : goal.returns-in-Test
returns-in-Test c = part-of-test c.args.nodes.now c.args.claim c.index-nodes-claim.result c.in-Test.test c.requires.there c.index-nodes-claim.is c.in-Test.is

pub returns-in-All : goal.returns-in-All
returns-in-All c =
    part-of-all c.args.nodes.now c.args.claim c.index-nodes-claim.result c.in-All.inner c.as_slice.result c.joint.result c.requires.earlier c.requires.there c.index-nodes-claim.is c.in-All.is c.as_slice.ensures c.joint.ensures

use Rattle.formula_nodes.specs.Standing.{node_trees}
use Rattle.formula_nodes.proofs.Valuing.{joined-claim}
use Rattle.formula_nodes.proofs.nodes.Nodes.joined.Goals as goal

pub returns-clause-each : goal.returns-clause-each
returns-clause-each c =
    joined-claim c.args.every (node_trees c.args.self.now) (node_trees c.all.new.self) c.args.claims c.in_ok-claim.claim c.turned.result c.in_ok-claim.ensures.grows c.requires c.in_ok-claim.ensures.each c.turned.ensures

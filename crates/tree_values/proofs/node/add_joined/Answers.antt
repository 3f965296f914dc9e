use Rattle.tree_values.proofs.Joining.{joined-ok}
use Rattle.tree_values.proofs.node.add_joined.Goals as goal

pub returns-clause-at : goal.returns-clause-at
returns-clause-at c = joined-ok c.join.result c.args.nodes.now c.join.new.nodes c.args.every c.args.children.now c.join.ensures.grows c.join.ensures.at

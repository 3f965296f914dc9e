use Rattle.tree_values.proofs.Joining.{not-children, not-ok}
use Rattle.tree_values.proofs.node.add_not.Goals as goal

pub add-requires : goal.add-requires
add-requires c = not-children c.args.nodes.now c.args.child c.requires

pub returns-clause-at : goal.returns-clause-at
returns-clause-at c = not-ok c.add.result c.args.nodes.now c.add.new.self c.args.child c.add.ensures.grows c.add.ensures.at

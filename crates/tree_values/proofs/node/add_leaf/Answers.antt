use Rattle.tree_values.proofs.Joining.{leaf-children, leaf-ok}
use Rattle.tree_values.proofs.node.add_leaf.Goals as goal

pub add-requires : goal.add-requires
add-requires c = leaf-children c.args.nodes.now c.args.leaf c.requires

pub returns-clause-at : goal.returns-clause-at
returns-clause-at c = leaf-ok c.add.result c.add.new.self c.args.leaf c.requires c.add.ensures.at

use Rattle.std.proofs.Common.{sym, subst}
use Rattle.tree_values.specs.Nodes.{AreChildrenIn}
use Rattle.tree_values.specs.declared.node.Node.{Node}
use Rattle.tree_values.proofs.Joining.{empty-children, empty-ok}
use Rattle.tree_values.proofs.node.add_empty.Goals as goal

pub add-requires : goal.add-requires
add-requires c = subst (λ (n : Node). AreChildrenIn c.args.nodes.now n) (sym c.empty_node.ensures) (empty-children c.args.nodes.now c.args.every)

pub returns-clause-at : goal.returns-clause-at
returns-clause-at c = empty-ok c.add.result c.add.new.self c.args.every c.empty_node.result c.empty_node.ensures c.add.ensures.at

use Rattle.std.proofs.Common.{sym, subst}
use Rattle.tree_values.specs.Nodes.{AreChildrenIn}
use Rattle.tree_values.specs.declared.node.Node.{Node}
use Rattle.tree_values.proofs.Joining.{joint-children, joint-ok}
use Rattle.tree_values.proofs.node.add_joint.Goals as goal

pub add-requires : goal.add-requires
add-requires c =
    subst (λ (n : Node). AreChildrenIn c.args.nodes.now n) (sym c.joint_node.ensures) (joint-children c.args.nodes.now c.args.every c.args.first c.args.second c.requires.first c.requires.second)

pub returns-clause-at : goal.returns-clause-at
returns-clause-at c = joint-ok c.add.result c.args.nodes.now c.add.new.self c.args.every c.args.first c.args.second c.joint_node.result c.joint_node.ensures c.add.ensures.grows c.add.ensures.at

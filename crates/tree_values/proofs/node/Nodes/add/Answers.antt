use Rattle.std.proofs.Common.{List, sym, subst}
use Rattle.tree_values.specs.Nodes.{AreChildrenIn, IsPrefix}
use Rattle.tree_values.specs.declared.node.Node.{Node}
use Rattle.tree_values.proofs.Joining.{ordered-insert, prefix-insert}
use Rattle.tree_values.proofs.node.Nodes.add.Goals as goal

pub invariant_of-self-2 : goal.invariant_of-self-2
invariant_of-self-2 c =
    let below = subst (λ (ns : List Node). AreChildrenIn ns c.args.node) (sym c.self.view_is) c.requires in
    ordered-insert _ c.self.inside.set.keys c.insert_full.new.self.keys c.args.node c.in_ok-index.ensures.keys c.self.invariant below

pub returns-clause-grows : goal.returns-clause-grows
returns-clause-grows c =
    subst (λ (ns : List Node). IsPrefix ns c.insert_full.new.self.keys) c.self.view_is (prefix-insert _ c.self.inside.set.keys c.insert_full.new.self.keys c.args.node c.in_ok-index.ensures.keys)

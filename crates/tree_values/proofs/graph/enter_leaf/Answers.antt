use Rattle.std.proofs.Common.{sym, subst}
use Rattle.std.specs.Prelude.{OnOk}
use Rattle.tree_values.specs.Nodes.{Enters, has_test}
use Rattle.tree_values.specs.declared.node.Node.{Node}
use Rattle.tree_values.proofs.Entering.{enters-none}
use Rattle.tree_values.proofs.graph.enter_leaf.Goals as goal

pub returns-in-Test : goal.returns-in-Test
returns-in-Test c = subst (λ (x : Node). OnOk c.put_with_room.result (Enters (has_test x) c.args.leaves.now.items c.put_with_room.new.lists.items c.args.index)) (sym c.in-Test.is) c.put_with_room.ensures

pub returns-in-Yes : goal.returns-in-Yes
returns-in-Yes c = subst (λ (x : Node). Enters (has_test x) c.args.leaves.now.items c.args.leaves.now.items c.args.index) (sym c.in-Yes.is) (enters-none c.args.leaves.now.items c.args.index)

pub returns-in-No : goal.returns-in-No
returns-in-No c = subst (λ (x : Node). Enters (has_test x) c.args.leaves.now.items c.args.leaves.now.items c.args.index) (sym c.in-No.is) (enters-none c.args.leaves.now.items c.args.index)

pub returns-in-Not : goal.returns-in-Not
returns-in-Not c = subst (λ (x : Node). Enters (has_test x) c.args.leaves.now.items c.args.leaves.now.items c.args.index) (sym c.in-Not.is) (enters-none c.args.leaves.now.items c.args.index)

pub returns-in-Both : goal.returns-in-Both
returns-in-Both c = subst (λ (x : Node). Enters (has_test x) c.args.leaves.now.items c.args.leaves.now.items c.args.index) (sym c.in-Both.is) (enters-none c.args.leaves.now.items c.args.index)

pub returns-in-Either : goal.returns-in-Either
returns-in-Either c = subst (λ (x : Node). Enters (has_test x) c.args.leaves.now.items c.args.leaves.now.items c.args.index) (sym c.in-Either.is) (enters-none c.args.leaves.now.items c.args.index)

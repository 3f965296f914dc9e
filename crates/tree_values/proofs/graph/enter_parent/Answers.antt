use Rattle.std.proofs.Common.{sym, subst}
use Rattle.std.specs.Prelude.{OnOk}
use Rattle.tree_values.specs.Nodes.{Enters, has_child}
use Rattle.tree_values.specs.declared.node.Node.{Node}
use Rattle.tree_values.proofs.Entering.{both-below, child-below, either-below, enters-none}
use Rattle.tree_values.proofs.graph.enter_parent.Goals as goal

pub put_at-requires : goal.put_at-requires
put_at-requires c = child-below c.args.node c.in-Not.child _ c.in-Not.is c.requires

pub put_at_both-requires-clause-first : goal.put_at_both-requires-clause-first
put_at_both-requires-clause-first c = (both-below c.args.node c.in-Both.first c.in-Both.second _ c.in-Both.is c.requires).0

pub put_at_both-requires-clause-second : goal.put_at_both-requires-clause-second
put_at_both-requires-clause-second c = (both-below c.args.node c.in-Both.first c.in-Both.second _ c.in-Both.is c.requires).1

pub put_at_both-requires-in-Either-clause-first : goal.put_at_both-requires-in-Either-clause-first
put_at_both-requires-in-Either-clause-first c = (either-below c.args.node c.in-Either.first c.in-Either.second _ c.in-Either.is c.requires).0

pub put_at_both-requires-in-Either-clause-second : goal.put_at_both-requires-in-Either-clause-second
put_at_both-requires-in-Either-clause-second c = (either-below c.args.node c.in-Either.first c.in-Either.second _ c.in-Either.is c.requires).1

pub returns-in-Yes-clause-put : goal.returns-in-Yes-clause-put
returns-in-Yes-clause-put c = subst (λ (x : Node). Enters (has_child x) c.args.parents.now.items c.args.parents.now.items c.args.index) (sym c.in-Yes.is) (enters-none c.args.parents.now.items c.args.index)

pub returns-in-No-clause-put : goal.returns-in-No-clause-put
returns-in-No-clause-put c = subst (λ (x : Node). Enters (has_child x) c.args.parents.now.items c.args.parents.now.items c.args.index) (sym c.in-No.is) (enters-none c.args.parents.now.items c.args.index)

pub returns-in-Test-clause-put : goal.returns-in-Test-clause-put
returns-in-Test-clause-put c = subst (λ (x : Node). Enters (has_child x) c.args.parents.now.items c.args.parents.now.items c.args.index) (sym c.in-Test.is) (enters-none c.args.parents.now.items c.args.index)

pub returns-in-Not-clause-put : goal.returns-in-Not-clause-put
returns-in-Not-clause-put c = subst (λ (x : Node). OnOk c.put_at.result (Enters (has_child x) c.args.parents.now.items c.put_at.new.lists.items c.args.index)) (sym c.in-Not.is) c.put_at.ensures.put

pub returns-in-Both-clause-put : goal.returns-in-Both-clause-put
returns-in-Both-clause-put c =
    subst (λ (x : Node). OnOk c.put_at_both.result (Enters (has_child x) c.args.parents.now.items c.put_at_both.new.lists.items c.args.index)) (sym c.in-Both.is) c.put_at_both.ensures.put

pub returns-in-Either-clause-put : goal.returns-in-Either-clause-put
returns-in-Either-clause-put c =
    subst (λ (x : Node). OnOk c.put_at_both-in-Either.result (Enters (has_child x) c.args.parents.now.items c.put_at_both-in-Either.new.lists.items c.args.index)) (sym c.in-Either.is) c.put_at_both-in-Either.ensures.put

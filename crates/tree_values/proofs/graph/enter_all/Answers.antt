use Rattle.std.proofs.Common.{get_or}
use Rattle.std.proofs.lemmas.Option.{slice_get-get_or}
use Rattle.std.proofs.lemmas.Result.{IfOk-from_err}
use Rattle.tree_values.specs.declared.node.Node.TheVariants.{Yes}
use Rattle.tree_values.proofs.Entering.{children-below, entered-next}
use Rattle.tree_values.proofs.graph.enter_all.Goals as goal

pub nodes-init : goal.nodes-init
nodes-init c = c.requires

pub enter_parent-requires : goal.enter_parent-requires
enter_parent-requires c = children-below c.args.nodes.now c.nodes.parents.items c.nodes.leaves.items c.nodes.i (get_or c.args.nodes.now c.nodes.i Yes) (slice_get-get_or c.args.nodes.now c.nodes.i Yes c.nodes-test.true) c.nodes-test.true c.nodes.invariant

pub returns-in_err-enter_parent : goal.returns-in_err-enter_parent
returns-in_err-enter_parent c = IfOk-from_err c.from_residual.result _ c.from_residual.ensures.0

pub returns-in_err-enter_leaf : goal.returns-in_err-enter_leaf
returns-in_err-enter_leaf c = IfOk-from_err c.from_residual-in_err-enter_leaf.result _ c.from_residual-in_err-enter_leaf.ensures.0

pub nodes-preserved : goal.nodes-preserved
nodes-preserved c =
    entered-next c.args.nodes.now c.nodes.parents.items c.nodes.leaves.items c.enter_parent.new.parents.items c.enter_leaf.new.leaves.items c.nodes.i (get_or c.args.nodes.now c.nodes.i Yes)
    (slice_get-get_or c.args.nodes.now c.nodes.i Yes c.nodes-test.true) c.enter_parent.ensures.long c.in_ok-enter_parent.ensures.put c.in_ok-enter_leaf.ensures c.nodes.invariant

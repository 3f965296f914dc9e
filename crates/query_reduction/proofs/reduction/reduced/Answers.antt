use Rattle.std.proofs.Common.{List, length, subst, sym}
use Rattle.formula_tree.specs.Trees.{tree_of}
use Rattle.formula_tree.specs.Values.{AreBelow}
use Rattle.formula_tree.specs.declared.formula.Formula.{Formula}
use Rattle.formula_nodes.specs.Standing.{node_trees}
use Rattle.policy_compile.specs.Queries.{asked_tree}
use Rattle.policy_model.specs.declared.test.Test.{Test}
use Rattle.query_reduction.specs.Values.{HasSameValue}
use Rattle.query_reduction.proofs.Replacing.{reduced-below, reduced-same}
use Rattle.query_reduction.proofs.reduction.reduced.Goals as goal

pub returns-clause-below : goal.returns-clause-below
returns-clause-below c =
    let t = length c.in_ok-tests.tests in
    let whole = subst (λ (ts : List Test). AreBelow (length ts) (asked_tree c.args.query.now)) (sym c.in_ok-tests.ensures) c.requires in
    let below = subst (λ (f : Formula). AreBelow t (tree_of f)) (sym c.deref.ensures) whole in
    reduced-below t (node_trees c.new-nodes.result) (node_trees c.number.new.self) (node_trees c.reduced.new.nodes) (tree_of c.deref.result.now) (tree_of c.in_ok-formula.formula.value) c.in_ok-less.less
    c.in_ok-whole.ensures.grows c.new-nodes.ensures c.in_ok-whole.ensures.tests c.in_ok-less.ensures.asks c.in_ok-formula.ensures below

pub returns-clause-same : goal.returns-clause-same
returns-clause-same c =
    let less = tree_of c.in_ok-formula.formula.value in
    subst (λ (f : Formula). HasSameValue c.args.schema.now c.args.query.now.tests (tree_of f) less) c.deref.ensures
    (reduced-same c.args.schema.now c.args.query.now.tests c.in_ok-reducer.reducer (node_trees c.number.new.self) (node_trees c.reduced.new.nodes) (tree_of c.deref.result.now) less c.in_ok-whole.whole c.in_ok-less.less
    c.in_ok-reducer.ensures.schema c.in_ok-reducer.ensures.tests c.in_ok-less.ensures.grows c.in_ok-whole.ensures.same c.in_ok-less.ensures.agree c.in_ok-formula.ensures)

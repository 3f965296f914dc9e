use Rattle.std.proofs.Common.{ap, arith}
use Rattle.formula_tree.specs.Trees.{tree_of, trees_of}
use Rattle.formula_nodes.specs.Standing.{node_trees}
use Rattle.formula_nodes.proofs.Laws.{grows-then}
use Rattle.set_questions.proofs.Numbered.{adds-next, inner-all, inner-next, none-past}
use Rattle.set_questions.proofs.numbering.numbered_inside.Goals as goal
use Rattle.set_questions.proofs.numbering.numbered_inside.Goals.{else-branches-test, then-branches-test+in_default}

pub returns-in_err-inner_claims-clause-tests : goal.returns-in_err-inner_claims-clause-tests
returns-in_err-inner_claims-clause-tests c =
    adds-next (trees_of c.args.branches.now) c.branches.i _ (tree_of c.deref.result.now) (node_trees c.args.nodes.now) (node_trees c.branches.nodes) (node_trees c.inner_claims.new.nodes) c.branches.invariant.1 c.in-Some.ensures (ap tree_of c.deref.ensures) c.inner_claims.ensures.tests

pub returns-in_err-push-clause-tests : goal.returns-in_err-push-clause-tests
returns-in_err-push-clause-tests c =
    adds-next (trees_of c.args.branches.now) c.branches.i _ (tree_of c.deref.result.now) (node_trees c.args.nodes.now) (node_trees c.branches.nodes) (node_trees c.inner_claims.new.nodes) c.branches.invariant.1 c.in-Some.ensures (ap tree_of c.deref.ensures) c.inner_claims.ensures.tests

pub branches-preserved : goal.branches-preserved
branches-preserved c = (
  grows-then (node_trees c.args.nodes.now) (node_trees c.branches.nodes) (node_trees c.inner_claims.new.nodes) c.branches.invariant.0 c.inner_claims.ensures.grows,
  adds-next (trees_of c.args.branches.now) c.branches.i _ (tree_of c.deref.result.now) (node_trees c.args.nodes.now) (node_trees c.branches.nodes) (node_trees c.inner_claims.new.nodes) c.branches.invariant.1 c.in-Some.ensures (ap tree_of c.deref.ensures) c.inner_claims.ensures.tests,
  inner-next (node_trees c.branches.nodes) (node_trees c.inner_claims.new.nodes) (trees_of c.args.branches.now) c.branches.i _ (tree_of c.deref.result.now) c.branches.claims c.push.new.self c.in_ok-inner_claims.field-0 c.inner_claims.ensures.grows
      c.branches.invariant.2 c.in-Some.ensures (ap tree_of c.deref.ensures) c.in_ok-inner_claims.ensures.claims c.in_ok-push.ensures.ok,
)

pub returns-clause-claims : goal.returns-clause-claims
returns-clause-claims c =
    elim c.branches-test.branch [
      | else-branches-test w ↦ inner-all (node_trees c.branches.nodes) (trees_of c.args.branches.now) c.branches.i c.branches.claims (omega arith) c.branches.invariant.2
      | then-branches-test+in_default w ↦
          inner-all (node_trees c.branches.nodes) (trees_of c.args.branches.now) c.branches.i c.branches.claims (none-past (trees_of c.args.branches.now) c.branches.i (rw w.in_default.is at w.get.ensures)) c.branches.invariant.2
    ]

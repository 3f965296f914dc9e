use Rattle.std.proofs.Common.{ap, arith}
use Rattle.formula_tree.specs.Trees.{tree_of, trees_of}
use Rattle.formula_nodes.specs.Standing.{node_trees}
use Rattle.formula_nodes.proofs.Laws.{grows-then}
use Rattle.set_questions.proofs.Numbered.{adds-next, claims-all, claims-next, none-past}
use Rattle.set_questions.proofs.numbering.numbered.Goals as goal
use Rattle.set_questions.proofs.numbering.numbered.Goals.{else-branches-test, then-branches-test+in_default}

pub returns-in_err-number-clause-tests : goal.returns-in_err-number-clause-tests
returns-in_err-number-clause-tests c =
    adds-next (trees_of c.args.branches.now) c.branches.i _ (tree_of c.deref.result.now) (node_trees c.args.nodes.now) (node_trees c.branches.nodes) (node_trees c.number.new.self) c.branches.invariant.1 c.in-Some.ensures (ap tree_of c.deref.ensures) c.number.ensures.tests

pub returns-in_err-push-clause-tests : goal.returns-in_err-push-clause-tests
returns-in_err-push-clause-tests c =
    adds-next (trees_of c.args.branches.now) c.branches.i _ (tree_of c.deref.result.now) (node_trees c.args.nodes.now) (node_trees c.branches.nodes) (node_trees c.number.new.self) c.branches.invariant.1 c.in-Some.ensures (ap tree_of c.deref.ensures) c.number.ensures.tests

pub branches-preserved : goal.branches-preserved
branches-preserved c = (
  grows-then (node_trees c.args.nodes.now) (node_trees c.branches.nodes) (node_trees c.number.new.self) c.branches.invariant.0 c.number.ensures.grows,
  adds-next (trees_of c.args.branches.now) c.branches.i _ (tree_of c.deref.result.now) (node_trees c.args.nodes.now) (node_trees c.branches.nodes) (node_trees c.number.new.self) c.branches.invariant.1 c.in-Some.ensures (ap tree_of c.deref.ensures) c.number.ensures.tests,
  claims-next (node_trees c.branches.nodes) (node_trees c.number.new.self) (trees_of c.args.branches.now) c.branches.i _ (tree_of c.deref.result.now) c.branches.claims c.push.new.self c.in_ok-number.field-0 c.number.ensures.grows
      c.branches.invariant.2 c.in-Some.ensures (ap tree_of c.deref.ensures) c.in_ok-number.ensures.same c.in_ok-push.ensures.ok,
)

pub returns-clause-claims : goal.returns-clause-claims
returns-clause-claims c =
    elim c.branches-test.branch [
      | else-branches-test w ↦ claims-all (node_trees c.branches.nodes) (trees_of c.args.branches.now) c.branches.i c.branches.claims (omega arith) c.branches.invariant.2
      | then-branches-test+in_default w ↦
          claims-all (node_trees c.branches.nodes) (trees_of c.args.branches.now) c.branches.i c.branches.claims (none-past (trees_of c.args.branches.now) c.branches.i (rw w.in_default.is at w.get.ensures)) c.branches.invariant.2
    ]

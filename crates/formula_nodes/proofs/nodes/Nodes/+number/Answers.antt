use Rattle.std.proofs.Common.{arith, ap, false, true, ◌∙◌}
use Rattle.formula_tree.specs.declared.formula.Formula.{Formula}
use Rattle.formula_tree.specs.Trees.{tree_of, trees_of}
use Rattle.formula_tree.specs.Values.{holds}
use Rattle.formula_nodes.specs.Standing.{node_trees}
use Rattle.formula_nodes.proofs.Laws.{grows-then}
use Rattle.formula_nodes.proofs.Valuing.{adds-next, all-claims, next-claims, none-claim, zip-within}
use Rattle.formula_tree.proofs.FormulaWalks.{none_past, size-at, tree-No, tree-Yes}
use Rattle.formula_nodes.proofs.nodes.Nodes.+number.Goals as goal
use Rattle.formula_nodes.proofs.nodes.Nodes.+number.Goals.{number_each-else-branches-test, number_each-then-branches-test+in_default}

pub number-joined-requires-in-All : goal.number-joined-requires-in-All
number-joined-requires-in-All t c = zip-within true (node_trees c.number_each.new.self) (trees_of c.in-All.branches) c.in_ok-claims-in-All.claims c.in_ok-claims-in-All.ensures.each

pub number-joined-requires-in-OneOf : goal.number-joined-requires-in-OneOf
number-joined-requires-in-OneOf t c = zip-within false (node_trees c.number_each-in-OneOf.new.self) (trees_of c.in-OneOf.branches) c.in_ok-claims-in-OneOf.claims c.in_ok-claims-in-OneOf.ensures.each

pub number-returns-in-Yes-clause-same : goal.number-returns-in-Yes-clause-same
number-returns-in-Yes-clause-same t c =
    none-claim c.joined-in-Yes.result true (node_trees c.args.self.now) (node_trees c.joined-in-Yes.new.self) c.new.result (tree_of c.args.formula.now) c.new.ensures
    (λ answers. ap (λ (f : Formula). holds answers (tree_of f)) c.in-Yes.is ∙ ap (holds answers) tree-Yes) c.joined-in-Yes.ensures.each

pub number-returns-in-No-clause-same : goal.number-returns-in-No-clause-same
number-returns-in-No-clause-same t c =
    none-claim c.joined-in-No-2.result false (node_trees c.args.self.now) (node_trees c.joined-in-No-2.new.self) c.new-in-No.result (tree_of c.args.formula.now) c.new-in-No.ensures
    (λ answers. ap (λ (f : Formula). holds answers (tree_of f)) c.in-No.is ∙ ap (holds answers) tree-No) c.joined-in-No-2.ensures.each

pub number_each-number-requires : goal.number_each-number-requires
number_each-number-requires t c = (rw c.deref.ensures (omega (arith, size-at (trees_of c.args.branches.now) c.branches.i _ c.in-Some.ensures)), tt)

pub number_each-returns-in_err-claim-clause-tests : goal.number_each-returns-in_err-claim-clause-tests
number_each-returns-in_err-claim-clause-tests t c =
    adds-next (trees_of c.args.branches.now) c.branches.i _ (tree_of c.deref.result.now) (node_trees c.args.self.now) (node_trees c.branches.self) (node_trees c.number.new.self) c.branches.invariant.1 c.in-Some.ensures (ap tree_of c.deref.ensures) c.number.ensures.tests

pub number_each-returns-in_err-push-clause-tests : goal.number_each-returns-in_err-push-clause-tests
number_each-returns-in_err-push-clause-tests t c =
    adds-next (trees_of c.args.branches.now) c.branches.i _ (tree_of c.deref.result.now) (node_trees c.args.self.now) (node_trees c.branches.self) (node_trees c.number.new.self) c.branches.invariant.1 c.in-Some.ensures (ap tree_of c.deref.ensures) c.number.ensures.tests

pub number_each-branches-preserved : goal.number_each-branches-preserved
number_each-branches-preserved t c = (
  grows-then (node_trees c.args.self.now) (node_trees c.branches.self) (node_trees c.number.new.self) c.branches.invariant.0 c.number.ensures.grows,
  adds-next (trees_of c.args.branches.now) c.branches.i _ (tree_of c.deref.result.now) (node_trees c.args.self.now) (node_trees c.branches.self) (node_trees c.number.new.self) c.branches.invariant.1 c.in-Some.ensures (ap tree_of c.deref.ensures) c.number.ensures.tests,
  next-claims c.args.every (node_trees c.branches.self) (node_trees c.number.new.self) (trees_of c.args.branches.now) c.branches.i _ (tree_of c.deref.result.now) c.branches.claims c.push.new.self c.in_ok-claim.claim c.turned.result c.number.ensures.grows
      c.branches.invariant.2 c.in-Some.ensures (ap tree_of c.deref.ensures) c.in_ok-claim.ensures.same c.turned.ensures c.in_ok-push.ensures.ok,
)

pub number_each-returns-clause-each : goal.number_each-returns-clause-each
number_each-returns-clause-each t c =
    elim c.branches-test.branch [
      | number_each-else-branches-test w ↦ all-claims c.args.every (node_trees c.branches.self) (trees_of c.args.branches.now) c.branches.i c.branches.claims (omega arith) c.branches.invariant.2
      | number_each-then-branches-test+in_default w ↦
          all-claims c.args.every (node_trees c.branches.self) (trees_of c.args.branches.now) c.branches.i c.branches.claims (none_past (trees_of c.args.branches.now) c.branches.i (rw w.in_default.is at w.get.ensures)) c.branches.invariant.2
    ]

use Rattle.std.proofs.Common.{List, ℕ, ◌<◌, arith, ap, length, sym, subst, ◌∙◌}
use Rattle.std.specs.List.{All}
use Rattle.formula_tree.specs.declared.formula.Formula.{Formula}
use Rattle.formula_tree.specs.Trees.{not as negation}
use Rattle.formula_tree.specs.Trees.{tree_of, trees_of}
use Rattle.tree_values.proofs.Joining.{all-at, are-below, next-at, not-tree, prefix-then}
use Rattle.formula_tree.proofs.FormulaWalks.{none_past, size-at, tree-Not}
use Rattle.tree_values.proofs.node.+add_formula.Goals as goal
use Rattle.tree_values.proofs.node.+add_formula.Goals.{add_branches-else-branches-test, add_branches-then-branches-test+in_default}

pub add_branches-add_formula-requires : goal.add_branches-add_formula-requires
add_branches-add_formula-requires t c = (rw c.deref.ensures (omega (arith, size-at (trees_of c.args.branches.now) c.branches.i _ c.in-Some.ensures)), tt)

pub add_branches-branches-preserved : goal.add_branches-branches-preserved
add_branches-branches-preserved t c = (
  next-at c.branches.nodes c.add_formula.new.nodes (trees_of c.args.branches.now) c.branches.i _ (tree_of c.deref.result.now) c.branches.children.items c.push.new.self.items c.in_ok-child.child
      c.in_ok-child.ensures.grows c.branches.invariant.0 c.in-Some.ensures (ap tree_of c.deref.ensures) c.in_ok-child.ensures.at c.in_ok-push.ensures.items,
  prefix-then c.args.nodes.now c.branches.nodes c.add_formula.new.nodes c.branches.invariant.1 c.in_ok-child.ensures.grows,
)

pub add_branches-returns-clause-at : goal.add_branches-returns-clause-at
add_branches-returns-clause-at t c =
    elim c.branches-test.branch [
      | add_branches-else-branches-test w ↦ all-at c.branches.nodes (trees_of c.args.branches.now) c.branches.i c.branches.children.items (omega arith) c.branches.invariant.0
      | add_branches-then-branches-test+in_default w ↦
          all-at c.branches.nodes (trees_of c.args.branches.now) c.branches.i c.branches.children.items (none_past (trees_of c.args.branches.now) c.branches.i (rw w.in_default.is at w.get.ensures)) c.branches.invariant.0
    ]

pub add_formula-add_joined-requires : goal.add_formula-add_joined-requires
add_formula-add_joined-requires t c =
    subst (λ (cs : List ℕ). All (λ k. k < length c.add_branches.new.nodes) cs) (sym c.as_slice.ensures.value)
    (are-below c.add_branches.new.nodes (trees_of c.in-All.branches) c.in_ok-children-in-All.children.items c.in_ok-children-in-All.ensures.at)

pub add_formula-add_joined-requires-in-OneOf : goal.add_formula-add_joined-requires-in-OneOf
add_formula-add_joined-requires-in-OneOf t c =
    subst (λ (cs : List ℕ). All (λ k. k < length c.add_branches-in-OneOf.new.nodes) cs) (sym c.as_slice-in-OneOf.ensures.value)
    (are-below c.add_branches-in-OneOf.new.nodes (trees_of c.in-OneOf.branches) c.in_ok-children-in-OneOf.children.items c.in_ok-children-in-OneOf.ensures.at)

pub add_formula-returns-in_ok-child-in-Not-clause-at : goal.add_formula-returns-in_ok-child-in-Not-clause-at
add_formula-returns-in_ok-child-in-Not-clause-at t c =
    not-tree c.add_not.result c.add_formula.new.nodes c.add_not.new.nodes c.in_ok-child-in-Not.child (tree_of c.deref.result.now) (tree_of c.args.formula.now) c.in_ok-child-in-Not.ensures.at
    (ap tree_of c.in-Not.is ∙ tree-Not c.in-Not.inner ∙ ap (λ (f : Formula). negation (tree_of f)) (sym c.deref.ensures)) c.add_not.ensures.at

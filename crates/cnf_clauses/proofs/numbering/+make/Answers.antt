use Rattle.std.proofs.Common.{arith, ap, ◌∙◌}
use Rattle.formula_tree.specs.declared.formula.Formula.{Formula}
use Rattle.formula_tree.specs.Trees.{children_of, tree_of, trees_of}
use Rattle.cnf_clauses.specs.Numbering.{nodes}
use Rattle.cnf_clauses.proofs.Indexing.{on_ok}
use Rattle.cnf_clauses.proofs.Limits.{cut-none}
use Rattle.cnf_clauses.proofs.Tying.{make-not, make-all, make-one-of, make-at, make-test}
use Rattle.formula_tree.proofs.FormulaWalks.{tree-Test, tree-Not, tree-All, tree-OneOf, size-Not, size-All, size-OneOf, size-at, none_past}
use Rattle.cnf_clauses.proofs.Walking.{nodes-Not, nodes-All, nodes-OneOf, nodes_in-next, nodes_in-within, clauses-next, clauses-all}
use Rattle.cnf_clauses.proofs.numbering.+make.Goals as goal

pub make-tie_not-requires : goal.make-tie_not-requires
make-tie_not-requires t c = omega (arith, nodes-Not c.in-Not.inner c.args.formula.now c.in-Not.is)

pub make-overflow_add-next : goal.make-overflow_add-next
make-overflow_add-next t c = omega (arith, nodes-Not c.in-Not.inner c.args.formula.now c.in-Not.is)

pub make-make-requires : goal.make-make-requires
make-make-requires t c =
    let e = ap (λ (f : Formula). nodes (tree_of f)) c.deref-in-Not.ensures in (
      rw c.deref-in-Not.ensures (omega (arith, size-Not c.in-Not.inner c.args.formula.now c.in-Not.is)),
      omega (arith, nodes-Not c.in-Not.inner c.args.formula.now c.in-Not.is),
    )

pub make-tie_all-requires : goal.make-tie_all-requires
make-tie_all-requires t c = omega (arith, nodes-All c.in-All.branches c.args.formula.now c.in-All.is)

pub make-overflow_add-next-in-All : goal.make-overflow_add-next-in-All
make-overflow_add-next-in-All t c = omega (arith, nodes-All c.in-All.branches c.args.formula.now c.in-All.is)

pub make-make_in-requires : goal.make-make_in-requires
make-make_in-requires t c =
    (omega (arith, size-All c.in-All.branches c.args.formula.now c.in-All.is), omega (arith, nodes-All c.in-All.branches c.args.formula.now c.in-All.is))

pub make-tie_one_of-requires : goal.make-tie_one_of-requires
make-tie_one_of-requires t c = omega (arith, nodes-OneOf c.in-OneOf.branches c.args.formula.now c.in-OneOf.is)

pub make-overflow_add-next-in-OneOf : goal.make-overflow_add-next-in-OneOf
make-overflow_add-next-in-OneOf t c = omega (arith, nodes-OneOf c.in-OneOf.branches c.args.formula.now c.in-OneOf.is)

pub make-make_in-requires-in-OneOf : goal.make-make_in-requires-in-OneOf
make-make_in-requires-in-OneOf t c =
    (omega (arith, size-OneOf c.in-OneOf.branches c.args.formula.now c.in-OneOf.is), omega (arith, nodes-OneOf c.in-OneOf.branches c.args.formula.now c.in-OneOf.is))

pub make-returns-in_ok-tie_not-in-Not : goal.make-returns-in_ok-tie_not-in-Not
make-returns-in_ok-tie_not-in-Not t c =
    on_ok c.make.result _ _
    (λ below.
    make-not c.args.next (tree_of c.args.formula.now) (tree_of c.in-Not.inner.value) (tree_of c.deref.result.now) (tree_of c.deref-in-Not.result.now) c.args.made.now c.tie_not.new.made c.make.new.made
    (ap tree_of c.in-Not.is ∙ tree-Not c.in-Not.inner) (ap tree_of c.deref.ensures) (ap tree_of c.deref-in-Not.ensures) c.in_ok-tie_not-in-Not.ensures below)
    c.make.ensures

pub make-returns-in_ok-tie_all-in-All : goal.make-returns-in_ok-tie_all-in-All
make-returns-in_ok-tie_all-in-All t c =
    on_ok c.make_in.result _ _
    (λ below.
    make-all c.args.next (tree_of c.args.formula.now) (children_of c.in-All.branches) c.args.made.now c.tie_all.new.made c.make_in.new.made
    (ap tree_of c.in-All.is ∙ tree-All c.in-All.branches) c.in_ok-tie_all-in-All.ensures below)
    c.make_in.ensures

pub make-returns-in_ok-tie_one_of-in-OneOf : goal.make-returns-in_ok-tie_one_of-in-OneOf
make-returns-in_ok-tie_one_of-in-OneOf t c =
    on_ok c.make_in-in-OneOf.result _ _
    (λ below.
    make-one-of c.args.next (tree_of c.args.formula.now) (children_of c.in-OneOf.branches) c.args.made.now c.tie_one_of.new.made c.make_in-in-OneOf.new.made
    (ap tree_of c.in-OneOf.is ∙ tree-OneOf c.in-OneOf.branches) c.in_ok-tie_one_of-in-OneOf.ensures below)
    c.make_in-in-OneOf.ensures

pub make_in-branches-init : goal.make_in-branches-init
make_in-branches-init t c = (cut-none c.args.made.now, omega arith)

pub make_in-make-requires : goal.make_in-make-requires
make_in-make-requires t c =
    let e = ap (λ (f : Formula). nodes (tree_of f)) c.deref.ensures in
    let (was, at_next) = c.branches.invariant in (
      rw c.deref.ensures (omega (arith, size-at (trees_of c.args.branches.now) c.branches.i _ c.in-Some.ensures)),
      omega (arith, at_next, nodes_in-within (trees_of c.args.branches.now) c.branches.i _ c.in-Some.ensures),
    )

pub make_in-overflow_cast-next : goal.make_in-overflow_cast-next
make_in-overflow_cast-next t c =
    let e = ap (λ (f : Formula). nodes (tree_of f)) c.deref-in-branches.ensures in
    omega (arith, nodes_in-within (trees_of c.args.branches.now) c.branches.i _ c.in-Some.ensures)

pub make_in-overflow_add-next : goal.make_in-overflow_add-next
make_in-overflow_add-next t c =
    let e = ap (λ (f : Formula). nodes (tree_of f)) c.deref-in-branches.ensures in
    omega (arith, nodes_in-within (trees_of c.args.branches.now) c.branches.i _ c.in-Some.ensures)

pub make_in-branches-preserved : goal.make_in-branches-preserved
make_in-branches-preserved t c =
    let e = ap (λ (f : Formula). nodes (tree_of f)) c.deref-in-branches.ensures in
    let within = nodes_in-within (trees_of c.args.branches.now) c.branches.i _ c.in-Some.ensures in
    let (was, at_next) = c.branches.invariant in (
      clauses-next c.args.next (trees_of c.args.branches.now) c.branches.i (tree_of c.in-Some.branch.now.value) c.args.made.now c.branches.made c.make.new.made c.branches.next
          c.in-Some.ensures was at_next
          (make-at c.branches.next (tree_of c.in-Some.branch.now.value) (tree_of c.deref.result.now) c.branches.made c.make.new.made (ap tree_of c.deref.ensures) c.in_ok-make.ensures),
      omega (arith, at_next, nodes_in-next (trees_of c.args.branches.now) c.branches.i _ c.in-Some.ensures),
    )

pub make_in-returns-after-branches : goal.make_in-returns-after-branches
make_in-returns-after-branches t c =
    clauses-all c.args.next (trees_of c.args.branches.now) c.branches.i c.args.made.now c.branches.made (omega arith) c.branches.invariant.0

pub make_in-returns-in_default : goal.make_in-returns-in_default
make_in-returns-in_default t c =
    clauses-all c.args.next (trees_of c.args.branches.now) c.branches.i c.args.made.now c.branches.made
    (none_past (trees_of c.args.branches.now) c.branches.i (rw c.in_default.is at c.get.ensures)) c.branches.invariant.0

pub make-returns-in-Test : goal.make-returns-in-Test
make-returns-in-Test t c =
    make-test c.args.next _ (tree_of c.args.formula.now) c.args.made.now (ap tree_of c.in-Test.is ∙ tree-Test _)

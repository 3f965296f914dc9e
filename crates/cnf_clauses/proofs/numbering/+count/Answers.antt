use Rattle.std.proofs.Common.{arith, ap}
use Rattle.formula_tree.specs.declared.formula.Formula.{Formula}
use Rattle.formula_tree.specs.Trees.{tree_of, trees_of}
use Rattle.cnf_clauses.specs.Numbering.{nodes}
use Rattle.formula_tree.proofs.FormulaWalks.{size-Not, size-All, size-OneOf, size-at}
use Rattle.cnf_clauses.proofs.Walking.{nodes-Not, nodes-All, nodes-OneOf, nodes_in-next}
use Rattle.cnf_clauses.proofs.numbering.+count.Goals as goal

pub count-count-requires : goal.count-count-requires
count-count-requires t c = (rw c.deref.ensures (omega (arith, size-Not c.in-Not.inner c.args.formula.now c.in-Not.is)), tt)

pub count-count_in-requires : goal.count-count_in-requires
count-count_in-requires t c = (omega (arith, size-All c.in-All.branches c.args.formula.now c.in-All.is), tt)

pub count-count_in-requires-in-OneOf : goal.count-count_in-requires-in-OneOf
count-count_in-requires-in-OneOf t c = (omega (arith, size-OneOf c.in-OneOf.branches c.args.formula.now c.in-OneOf.is), tt)

pub count-returns-in-Not : goal.count-returns-in-Not
count-returns-in-Not t c =
    let e = ap (λ (f : Formula). nodes (tree_of f)) c.deref.ensures in
    omega (arith, nodes-Not c.in-Not.inner c.args.formula.now c.in-Not.is)

pub count-returns-in-All : goal.count-returns-in-All
count-returns-in-All t c = omega (arith, nodes-All c.in-All.branches c.args.formula.now c.in-All.is)

pub count-returns-in-OneOf : goal.count-returns-in-OneOf
count-returns-in-OneOf t c = omega (arith, nodes-OneOf c.in-OneOf.branches c.args.formula.now c.in-OneOf.is)

pub count_in-count-requires : goal.count_in-count-requires
count_in-count-requires t c = (rw c.deref.ensures (omega (arith, size-at (trees_of c.args.branches.now) c.branches.i _ c.in-Some.ensures)), tt)

pub count_in-branches-preserved : goal.count_in-branches-preserved
count_in-branches-preserved t c =
    let e = ap (λ (f : Formula). nodes (tree_of f)) c.deref.ensures in
    omega (arith, nodes_in-next (trees_of c.args.branches.now) c.branches.i _ c.in-Some.ensures)

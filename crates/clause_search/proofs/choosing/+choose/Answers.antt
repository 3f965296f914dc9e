use Rattle.std.proofs.Common.{arith}
use Rattle.formula_tree.specs.Trees.{trees_of}
use Rattle.formula_tree.proofs.FormulaWalks.{size-Not, size-All, size-OneOf, size-at}
use Rattle.clause_search.proofs.choosing.+choose.Goals as goal

pub choose-choose-requires : goal.choose-choose-requires
choose-choose-requires t c = (rw c.deref.ensures (omega (arith, size-Not c.in-Not.inner c.args.formula.now c.in-Not.is)), tt)

pub choose-choose_in-requires : goal.choose-choose_in-requires
choose-choose_in-requires t c = (omega (arith, size-All c.in-All.branches c.args.formula.now c.in-All.is), tt)

pub choose-choose_in-requires-in-OneOf : goal.choose-choose_in-requires-in-OneOf
choose-choose_in-requires-in-OneOf t c = (omega (arith, size-OneOf c.in-OneOf.branches c.args.formula.now c.in-OneOf.is), tt)

pub choose_in-choose-requires : goal.choose_in-choose-requires
choose_in-choose-requires t c = (rw c.deref.ensures (omega (arith, size-at (trees_of c.args.branches.now) c.branches.i _ c.in-Some.ensures)), tt)

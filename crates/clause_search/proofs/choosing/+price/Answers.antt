use Rattle.std.proofs.Common.{arith}
use Rattle.formula_tree.specs.Trees.{trees_of}
use Rattle.formula_tree.proofs.FormulaWalks.{size-Not, size-All, size-OneOf, size-at}
use Rattle.clause_search.proofs.choosing.+price.Goals as goal

pub price-price-requires : goal.price-price-requires
price-price-requires t c = (rw c.deref.ensures (omega (arith, size-Not c.in-Not.inner c.args.formula.now c.in-Not.is)), tt)

pub price-price_in-requires : goal.price-price_in-requires
price-price_in-requires t c = (omega (arith, size-All c.in-All.branches c.args.formula.now c.in-All.is), tt)

pub price-price_in-requires-in-OneOf : goal.price-price_in-requires-in-OneOf
price-price_in-requires-in-OneOf t c = (omega (arith, size-OneOf c.in-OneOf.branches c.args.formula.now c.in-OneOf.is), tt)

pub price_in-price-own-requires : goal.price_in-price-own-requires
price_in-price-own-requires t c = (rw c.deref.ensures (omega (arith, size-at (trees_of c.args.branches.now) c.branches.i _ c.in-Some.ensures)), tt)

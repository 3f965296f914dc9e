use Rattle.std.specs.Prelude.{⊤}
use Rattle.formula_tree.specs.Trees.{of_list, tree_of, trees_of}
use Rattle.formula_tree.proofs.FormulaWalks.{size, size_in}
use Rattle.clause_search.proofs.choosing.+price.Given as goal

abbrev pub decreases-price : goal.decreases-price
decreases-price l = size (tree_of l.formula.now)

abbrev pub decreases-price_in : goal.decreases-price_in
decreases-price_in l = size_in (of_list (trees_of l.branches.now))

abbrev pub invariant-price_in-branches : goal.invariant-price_in-branches
invariant-price_in-branches l = ⊤

use Rattle.std.specs.Prelude.{⊤}
use Rattle.formula_tree.specs.Trees.{of_list, tree_of, trees_of}
use Rattle.formula_tree.proofs.FormulaWalks.{size, size_in}
use Rattle.clause_search.proofs.choosing.+choose.Given as goal

abbrev pub decreases-choose : goal.decreases-choose
decreases-choose l = size (tree_of l.formula.now)

abbrev pub decreases-choose_in : goal.decreases-choose_in
decreases-choose_in l = size_in (of_list (trees_of l.branches.now))

abbrev pub invariant-choose_in-branches : goal.invariant-choose_in-branches
invariant-choose_in-branches l = ⊤

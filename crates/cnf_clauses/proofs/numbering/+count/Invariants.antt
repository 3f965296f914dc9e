use Rattle.std.proofs.Common.{◌≡◌, ◌-◌, ◌^◌, min, take}
use Rattle.formula_tree.specs.Trees.{of_list, tree_of, trees_of}
use Rattle.cnf_clauses.specs.Numbering.{nodes_in}
use Rattle.formula_tree.proofs.FormulaWalks.{size, size_in}
use Rattle.cnf_clauses.proofs.numbering.+count.Given as goal

abbrev pub decreases-count : goal.decreases-count
decreases-count l = size (tree_of l.formula.now)

abbrev pub decreases-count_in : goal.decreases-count_in
decreases-count_in l = size_in (of_list (trees_of l.branches.now))

abbrev pub invariant-count_in-branches : goal.invariant-count_in-branches
invariant-count_in-branches l = l.sum ≡ min (nodes_in (of_list (take l.i (trees_of l.branches)))) (2 ^ 64 - 1)

use Rattle.formula_tree.specs.Trees.{of_list, tree_of, trees_of}
use Rattle.findings.proofs.Trees.{size, size_in}
use Rattle.findings.proofs.inhabited.+parts.Given as goal

abbrev pub decreases-parts_of : goal.decreases-parts_of
decreases-parts_of l = size (tree_of l.formula.now)

abbrev pub decreases-parts_of_each : goal.decreases-parts_of_each
decreases-parts_of_each l = size_in (of_list (trees_of l.branches.now))

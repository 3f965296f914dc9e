use Rattle.formula_tree.specs.Trees.{of_list, tree_of, trees_of}
use Rattle.findings.proofs.Trees.{size, size_in}
use Rattle.findings.proofs.less.+marks.Given as goal

abbrev pub decreases-mark : goal.decreases-mark
decreases-mark l = size (tree_of l.formula.now)

abbrev pub decreases-mark_each : goal.decreases-mark_each
decreases-mark_each l = size_in (of_list (trees_of l.branches.now))

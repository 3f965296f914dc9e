use Rattle.std.proofs.Common.{◌≡◌, take}
use Rattle.formula_tree.specs.Trees.{of_list, tree_of, trees_of}
use Rattle.findings.specs.Renumbering.{renumbered_each}
use Rattle.findings.proofs.Trees.{size, size_in}
use Rattle.findings.proofs.numbering.+renumber.Given as goal

abbrev pub decreases-renumber : goal.decreases-renumber
decreases-renumber l = size (tree_of l.formula.now)

abbrev pub decreases-renumber_each : goal.decreases-renumber_each
decreases-renumber_each l = size_in (of_list (trees_of l.branches.now))

abbrev pub invariant-renumber_each-branches : goal.invariant-renumber_each-branches
invariant-renumber_each-branches l = of_list (trees_of l.renumbered) ≡ renumbered_each l.numbers (of_list (take l.i (trees_of l.branches)))

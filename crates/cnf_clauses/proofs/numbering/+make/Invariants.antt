use Rattle.std.proofs.Common.{◌≡◌, ◌+◌, take}
use Rattle.formula_tree.specs.Trees.{of_list, tree_of, trees_of}
use Rattle.cnf_clauses.specs.Numbering.{nodes_in, node_clauses_in, with_more}
use Rattle.formula_tree.proofs.FormulaWalks.{size, size_in}
use Rattle.cnf_clauses.proofs.numbering.+make.Given as goal

abbrev pub decreases-make : goal.decreases-make
decreases-make l = size (tree_of l.formula.now)

abbrev pub decreases-make_in : goal.decreases-make_in
decreases-make_in l = size_in (of_list (trees_of l.branches.now))

abbrev pub invariant-make_in-branches : goal.invariant-make_in-branches
invariant-make_in-branches l =
    (l.made ≡ with_more l.initial.made (node_clauses_in l.initial.next (of_list (take l.i (trees_of l.branches)))))
    × (l.next ≡ l.initial.next + nodes_in (of_list (take l.i (trees_of l.branches))))

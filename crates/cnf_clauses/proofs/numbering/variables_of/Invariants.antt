use Rattle.std.proofs.Common.{◌≡◌, ◌+◌, take}
use Rattle.formula_tree.specs.Trees.{of_list, trees_of}
use Rattle.cnf_clauses.specs.Numbering.{nodes_in, variables_of}
use Rattle.cnf_clauses.proofs.numbering.variables_of.Given as goal

abbrev pub invariant-branches : goal.invariant-branches
invariant-branches l =
    (l.variables.items ≡ variables_of l.initial.next (of_list (take l.i (trees_of l.branches)))) × (l.next ≡ l.initial.next + nodes_in (of_list (take l.i (trees_of l.branches))))

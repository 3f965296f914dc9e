use Rattle.std.proofs.Common.{◌≡◌, true, false, take}
use Rattle.formula_tree.specs.Trees.{of_list, tree_of, trees_of}
use Rattle.formula_tree.specs.Values.{each_holds, some_holds}
use Rattle.findings.specs.Judging.{nth_answer}
use Rattle.findings.proofs.Trees.{size, size_in}
use Rattle.findings.proofs.evaluation.+evaluation.Given as goal

abbrev pub decreases-holds_by : goal.decreases-holds_by
decreases-holds_by l = size (tree_of l.formula.now)

abbrev pub decreases-each_holds_by : goal.decreases-each_holds_by
decreases-each_holds_by l = size_in (of_list (trees_of l.branches.now))

abbrev pub decreases-some_holds_by : goal.decreases-some_holds_by
decreases-some_holds_by l = size_in (of_list (trees_of l.branches.now))

abbrev pub invariant-each_holds_by-branches : goal.invariant-each_holds_by-branches
invariant-each_holds_by-branches l = each_holds (nth_answer l.answers) (of_list (take l.i (trees_of l.branches))) ≡ true

abbrev pub invariant-some_holds_by-branches : goal.invariant-some_holds_by-branches
invariant-some_holds_by-branches l = some_holds (nth_answer l.answers) (of_list (take l.i (trees_of l.branches))) ≡ false

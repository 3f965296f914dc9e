use Rattle.std.proofs.Common.{◌≡◌, drop, map}
use Rattle.formula_tree.specs.Answers.{answer_of}
use Rattle.formula_tree.specs.Looks.{look_of_all, look_of_both, look_of_either, look_of_some}
use Rattle.formula_tree.specs.Trees.{branch_tree, of_list}
use Rattle.formula_tree.proofs.value.+look.Given as goal

abbrev pub invariant-look_at_all-all : goal.invariant-look_at_all-all
invariant-look_at_all-all l = look_of_all (answer_of l.path) (of_list (map branch_tree l.branch-items)) ≡ look_of_both l.all (look_of_all (answer_of l.path) (of_list (map branch_tree (drop l.branch-index l.branch-items))))

abbrev pub invariant-look_at_some-some : goal.invariant-look_at_some-some
invariant-look_at_some-some l = look_of_some (answer_of l.path) (of_list (map branch_tree l.branch-items)) ≡ look_of_either l.some (look_of_some (answer_of l.path) (of_list (map branch_tree (drop l.branch-index l.branch-items))))

use Rattle.std.proofs.Common.{◌≡◌, take}
use Rattle.tree_values.specs.Leaving.{still_answered}
use Rattle.tree_values.proofs.tree_values.TreeValues.answers_left.Given as goal

abbrev pub invariant-answers : goal.invariant-answers
invariant-answers l = l.left ≡ still_answered l.self.answers (take l.test-index l.test-items)

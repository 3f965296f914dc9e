use Rattle.std.proofs.Common.{◌≡◌, ℕ, ◌<◌, Bool, Some, slice_index_or}
use Rattle.formula_tree.specs.Answers.{answer_of}
use Rattle.nogoods.proofs.watching.lacking.Given as goal

abbrev pub invariant-answers : goal.invariant-answers
invariant-answers l = (k : ℕ) (d : ℕ × Bool) → k < l.test-index → answer_of l.path (slice_index_or l.test-items k d).0 ≡ Some (slice_index_or l.test-items k d).1

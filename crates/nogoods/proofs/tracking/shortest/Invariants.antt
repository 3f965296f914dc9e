use Rattle.std.proofs.Common.{◌≡◌, ◌≤◌, ℕ, Bool, Some, length, slice_get}
use Rattle.formula_tree.specs.Answers.{answer_of}
use Rattle.nogoods.proofs.tracking.shortest.Given as goal

abbrev pub invariant-loop-count : goal.invariant-loop-count
invariant-loop-count l = (l.count ≤ length l.path) ×
    ((k n : ℕ) (b : Bool) → l.count ≤ k → slice_get l.path k ≡ Some (n, b) → ¬ (answer_of l.answers n ≡ Some b))

abbrev pub decreases-loop-count : goal.decreases-loop-count
decreases-loop-count l = l.count

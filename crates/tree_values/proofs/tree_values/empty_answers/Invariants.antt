use Rattle.std.proofs.Common.{◌≡◌, ℕ, None, length}
use Rattle.tree_values.specs.Models.{answer_at}
use Rattle.tree_values.proofs.tree_values.empty_answers.Given as goal

abbrev pub invariant-tests : goal.invariant-tests
invariant-tests l = (length l.answers.items ≡ l.counter) × ((n : ℕ) → answer_at l.answers.items n ≡ None)

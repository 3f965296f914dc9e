-- Answers of a path that are given to a tree.
use Rattle.std.specs.Prelude.{◌≡◌, ◌<◌, ◌⊎◌, ℕ, Bool, Some, length}
use Rattle.formula_tree.specs.Answers.{Answers, answer_of}
use Rattle.tree_values.specs.Models.{Answered, answer_in}

-- some tests now have the path's answer, or none where the path has none, and the others what they had
pub record IsGivenSome (old new : Answered) (path : Answers) : Type 0 where
  pub formula : new.formula ≡ old.formula
  pub tests : length new.answers ≡ length old.answers
  pub each : (n : ℕ) → (answer_in new n ≡ answer_in old n) ⊎ (answer_in new n ≡ answer_of path n)

-- the tests of these answers have the path's, as far as there is room
abbrev pub AreGiven : Answered → Answers → Answers → Type 0
AreGiven a path items = (n : ℕ) (b : Bool) → answer_of items n ≡ Some b → n < length a.answers → answer_in a n ≡ answer_of path n

-- The labels that stand before a node, as a check keeps them.
use Rattle.std.specs.Prelude.{◌≡◌, ℕ, List, [], ◌∷◌, ◌++◌, Bool, Option, Some, None, All, slice_get, slice_index_or}
use Rattle.formula_tree.specs.Answers.{Answers, answer_of}
use Rattle.refute_check.specs.Closing.{Before, Rise}

-- each ended label has its index by its number, and no other label has one; and the tests of their answers rise
pub record HaveIndices (ended : List (ℕ × Answers)) (indices : List (Option ℕ)) : Type 0 where
  pub found : (i n : ℕ) (answers : Answers) → slice_get ended i ≡ Some (n, answers) → slice_index_or indices n None ≡ Some i
  pub named : (n i : ℕ) → slice_index_or indices n None ≡ Some i →
      (answers : Answers) × (slice_get ended i ≡ Some (n, answers))
  pub rise : All (λ l. Rise l.1) ended

-- no label of the number has ended
abbrev pub HasNotEnded : Before → ℕ → Type 0
HasNotEnded before n = All (λ l. l.0 ≡ n → ⊥) before.ended

-- one more label has ended
abbrev pub with_ended : Before → ℕ → Answers → Before
with_ended before n answers = record { begun = before.begun; ended = before.ended ++ (n, answers) ∷ [] }

-- the path answers the test so
abbrev pub IsAnswered : Answers → ℕ × Bool → Type 0
IsAnswered path a = answer_of path a.0 ≡ Some a.1

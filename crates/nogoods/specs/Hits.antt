-- Which of several lists of answers is the first that a path contains.
use Rattle.std.specs.Prelude.{ℕ, ◌<◌, ◌≤◌, List, [], length, slice_index_or}
use Rattle.formula_tree.specs.Answers.{Answers, Contained}

-- the list at an index, counted from 0; none of its answers past the end
abbrev pub answers_at : List Answers → ℕ → Answers
answers_at lists i = slice_index_or lists i []

-- each answer of the list at that index is one of the path
abbrev pub IsHit : List Answers → Answers → ℕ → Type 0
IsHit lists path i = Contained (answers_at lists i) path

-- no list before that index is contained in the path
abbrev pub NoneBefore : List Answers → Answers → ℕ → Type 0
NoneBefore lists path end = (i : ℕ) → i < length lists → IsHit lists path i → end ≤ i

-- the list at that index is the first that is contained in the path
pub record IsFirstHit (lists : List Answers) (path : Answers) (i : ℕ) : Type 0 where
  pub there : i < length lists
  pub hit : IsHit lists path i
  pub first : NoneBefore lists path i

-- no list is contained in the path
abbrev pub NoHit : List Answers → Answers → Type 0
NoHit lists path = NoneBefore lists path (length lists)

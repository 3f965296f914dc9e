-- Paths of a search: lists of answered tests.
use Rattle.std.specs.Prelude.{◌≡◌, ℕ, ◌==◌, List, [], ◌∷◌, Bool, Option, Some, None, if◌then◌else◌, slice_index_or}

-- tests, each with its answer, in the order in which they were answered
abbrev pub Answers : Type 0
Answers = List (ℕ × Bool)

-- the answer to a test, or none where it isn't answered
abbrev pub answer_of : Answers → ℕ → Option Bool
answer_of [] n = None
answer_of (p ∷ path) n = if p.0 == n then Some p.1 else answer_of path n

-- no test is answered twice
abbrev pub IsDistinct : Answers → Type 0
IsDistinct [] = Unit {0}
IsDistinct (p ∷ path) = (answer_of path p.0 ≡ None) × IsDistinct path

-- each answer of the first list is one of the second
abbrev pub Contained : Answers → Answers → Type 0
Contained few many = (n : ℕ) (b : Bool) → answer_of few n ≡ Some b → answer_of many n ≡ Some b

-- what an answer to each test says: a path with it in it
abbrev pub Completes : (ℕ → Bool) → Answers → Type 0
Completes total path = (n : ℕ) (b : Bool) → answer_of path n ≡ Some b → total n ≡ b

-- answers by test numbers are those of the path
pub record IsByTest (path : Answers) (by_test : List (Option Bool)) : Type 0 where
  pub distinct : IsDistinct path
  pub same : (n : ℕ) → slice_index_or by_test n None ≡ answer_of path n

-- The plain run of a tree: a search that splits on the picked test, yes first.
use Rattle.std.specs.Prelude.{◌≡◌, ◌<◌, ℕ, suc, zero, ◌+◌, [], ◌∷◌, ◌++◌, Bool, true, false, Option, Some, None, ◌⊎◌}
use Rattle.formula_tree.specs.declared.value.Three.TheVariants.{Yes, No}
use Rattle.formula_tree.specs.Answers.{Answers, answer_of, Contained}
use Rattle.formula_tree.specs.Trees.{Tree}
use Rattle.formula_tree.specs.Values.{value, pick}

-- the path with one more answer
abbrev pub path_with : Answers → ℕ → Bool → Answers
path_with path n b = path ++ (n, b) ∷ []

-- The run from a path, where `possible` says which paths can be met: it ends with a path that can be met and makes the
-- tree yes where the Bool is true, and without one where it is false, after so many splits.
pub data Run (possible : Answers → Type 0) (tree : Tree) : Answers → Bool → ℕ → Type 0 where
  -- without one: the value is no
  no_by_value : (path : Answers) → value path tree ≡ No → Run possible tree path false 0
  -- without one: the path can't be met
  no_by_path : (path : Answers) → ¬ possible path → Run possible tree path false 0
  -- with the path itself: the value is yes, and the path can be met
  yes_by_value : (path : Answers) → value path tree ≡ Yes → possible path → Run possible tree path true 0
  -- a split whose yes side ends with one: its no side isn't run
  yes_side : (path : Answers) (n k all : ℕ) → possible path → pick path tree ≡ Some n →
      Run possible tree (path_with path n true) true k → all ≡ k + 1 → Run possible tree path true all
  -- a split whose yes side ends without one: its no side says how it ends
  no_side : (path : Answers) (n : ℕ) (end : Bool) (k m all : ℕ) → possible path → pick path tree ≡ Some n →
      Run possible tree (path_with path n true) false k → Run possible tree (path_with path n false) end m →
      all ≡ k + m + 1 → Run possible tree path end all

-- the run from the path needs more splits than the number
abbrev pub NeedsMore : (Answers → Type 0) → Tree → Answers → ℕ → Type 0
NeedsMore possible tree path splits = (end : Bool) (n : ℕ) → Run possible tree path end n → splits < n

-- how many of the tests below t the path leaves unanswered
abbrev pub one_if_none : Option Bool → ℕ
one_if_none None = 1
one_if_none (Some b) = 0

abbrev pub unanswered_count : Answers → ℕ → ℕ
unanswered_count path zero = 0
unanswered_count path (suc t) = one_if_none (answer_of path t) + unanswered_count path t

-- some possible path that contains the answers makes the tree yes
abbrev pub CanBeMet : (Answers → Type 0) → Tree → Answers → Type 0
CanBeMet possible tree path = (longer : Answers) × Contained path longer × (value longer tree ≡ Yes) × possible longer

-- a longer path is harder to meet
abbrev pub IsHarderAlong : (Answers → Type 0) → Type 0
IsHarderAlong possible = (few many : Answers) → Contained few many → possible many → possible few

-- a path that can be met can be met with one of the two answers to any further test
abbrev pub CanGoOn : (Answers → Type 0) → Type 0
CanGoOn possible = (path : Answers) (n : ℕ) → possible path → answer_of path n ≡ None →
    possible (path_with path n true) ⊎ possible (path_with path n false)

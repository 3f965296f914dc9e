-- What is kept of pairs of tests, each at a place by the numbers of its tests.
use Rattle.std.specs.Prelude.{◌≡◌, ◌/◌, ◌%◌, ℕ, Bool, List, Option, Some, None, IsTrue, slice_index_or}
use Rattle.test_relations.specs.declared.kept.TheConstants.{MOST_KEPT}

-- what is known holds of the tests whose pair has this place, if it is a yes
abbrev pub IsKnownAt : (ℕ → ℕ → Type 0) → ℕ → Bool → Type 0
IsKnownAt relation place known = IsTrue known → relation (place / MOST_KEPT) (place % MOST_KEPT)

-- whatever is kept at a place is known there
abbrev pub AreKnown : (ℕ → ℕ → Type 0) → List (Option Bool) → Type 0
AreKnown relation kept = (place : ℕ) (known : Bool) → slice_index_or kept place None ≡ Some known → IsKnownAt relation place known

-- nothing is kept
abbrev pub IsNothingKept : List (Option Bool) → Type 0
IsNothingKept kept = (place : ℕ) → slice_index_or kept place None ≡ None

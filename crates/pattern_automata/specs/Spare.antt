-- The character that stands for all that patterns don't name.
use Rattle.std.specs.Prelude.{◌≡◌, ℕ, ◌<◌, ◌≤◌, List, Bool, true, false, ◌||◌}
use Rattle.std.specs.Char.{IsScalar}
use Rattle.wildcard_lang.specs.declared.piece.Piece.{Piece}
use Rattle.wildcard_lang.specs.Places.{contains_place}
use Rattle.pattern_automata.specs.Closed.{is_named_character}

-- the list gets the scalars that pass the test
abbrev pub GrowsBy : (ℕ → Bool) → List ℕ → List ℕ → Type 0
GrowsBy test old new = (c : ℕ) → IsScalar c → contains_place new c ≡ (contains_place old c || test c)

abbrev pub HasAllScalars : List ℕ → Type 0
HasAllScalars list = (c : ℕ) → IsScalar c → contains_place list c ≡ true

-- each scalar from a number on and below an end is in the list
abbrev pub AreTaken : List ℕ → ℕ → ℕ → Type 0
AreTaken list from end = (c : ℕ) → IsScalar c → from ≤ c → c < end → contains_place list c ≡ true

-- a scalar from a number on and below an end that isn't in the list
pub record IsFreeIn (list : List ℕ) (from end c : ℕ) : Type 0 where
  pub scalar : IsScalar c
  pub new : contains_place list c ≡ false
  pub low : from ≤ c
  pub high : c < end

-- a printable ASCII character other than the space
abbrev pub IsPrintable : ℕ → Type 0
IsPrintable c = (33 ≤ c) × (c < 127)

-- a scalar that isn't in the list, and a printable one wherever one is free
pub record IsSpareOf (list : List ℕ) (c : ℕ) : Type 0 where
  pub scalar : IsScalar c
  pub new : contains_place list c ≡ false
  pub printable : (d : ℕ) → IsPrintable d → contains_place list d ≡ false → IsPrintable c

-- a scalar that the patterns don't name, and a printable one wherever they leave one
pub record IsSpare (patterns : List (List Piece)) (c : ℕ) : Type 0 where
  pub scalar : IsScalar c
  pub new : is_named_character patterns c ≡ false
  pub printable : (d : ℕ) → IsPrintable d → is_named_character patterns d ≡ false → IsPrintable c

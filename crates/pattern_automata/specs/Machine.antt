-- What a search and a check know of their patterns.
use Rattle.std.specs.Prelude.{◌≡◌, ℕ, ◌<◌, ◌⊎◌, List, length, slice_index_or, Bool, true, false, All}
use Rattle.std.specs.Bool.{MatchBool}
use Rattle.std.specs.Char.{IsScalar}
use Rattle.wildcard_lang.specs.declared.piece.Piece.{Piece}
use Rattle.wildcard_lang.specs.Places.{contains_place, step_lists}
use Rattle.pattern_automata.specs.declared.machine.Machine.{Machine}
use Rattle.pattern_automata.specs.Closed.{is_named_character}
use Rattle.pattern_automata.specs.Marks.{mark_count}
use Rattle.pattern_automata.specs.Moves.{IsMasks, IsMove, fronts, characters_of}
use Rattle.pattern_automata.specs.Spare.{IsSpare}
use Rattle.pattern_automata.specs.Tree.{IsEnds}

-- the character is named by the patterns or spare
abbrev pub IsKnown : List (List Piece) → ℕ → Type 0
IsKnown patterns c = IsScalar c → (is_named_character patterns c ≡ true) ⊎ IsSpare patterns c

-- the first character is none that the patterns name, or they name all
abbrev pub IsFirstSpare : List (List Piece) → List ℕ → Type 0
IsFirstSpare patterns characters =
    (0 < length characters) × IsScalar (slice_index_or characters 0 0) × (is_named_character patterns (slice_index_or characters 0 0) ≡ false)

-- the characters have all that the patterns name, and, where one is left, first a spare one
pub record IsAlphabet (patterns : List (List Piece)) (characters : List ℕ) (spared : Bool) : Type 0 where
  pub known : All (IsKnown patterns) characters
  pub named_ones : (c : ℕ) → IsScalar c → is_named_character patterns c ≡ true → contains_place characters c ≡ true
  pub first : MatchBool spared (IsFirstSpare patterns characters) ((c : ℕ) → IsScalar c → is_named_character patterns c ≡ true)

pub record IsMachine (patterns : List (List Piece)) (m : Machine) : Type 0 where
  pub ends : IsEnds patterns m.ends.items
  pub count : m.count ≡ mark_count patterns
  pub room : m.count < 18446744073709551615
  pub masks : IsMasks (fronts patterns) m.masks
  pub moves : All (IsMove (fronts patterns)) m.moves.items
  pub alphabet : IsAlphabet patterns (characters_of m.moves.items) m.spared

-- each scalar steps as one of the characters
abbrev pub StandForAll : List (List Piece) → List ℕ → Type 0
StandForAll patterns characters =
    (c : ℕ) → IsScalar c →
    (d : ℕ) × IsScalar d × (contains_place characters d ≡ true)
    × ((lists : List (List ℕ)) → step_lists patterns lists c ≡ step_lists patterns lists d)

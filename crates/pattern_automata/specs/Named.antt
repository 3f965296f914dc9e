-- At which marks pieces name characters.
use Rattle.std.specs.Prelude.{◌≡◌, ◌≢◌, ℕ, ◌+◌, ◌*◌, ◌/◌, ◌<◌, List, [], ◌∷◌, length, take}
use Rattle.std.specs.Prelude.{slice_index_or, Option, None, Bool, true, cond, ◌||◌, ◌&&◌, ◌==◌, All, Vec}
use Rattle.std.specs.declared.alloc.Global.{Global}
use Rattle.wildcard_lang.specs.declared.piece.Piece.{Piece}
use Rattle.pattern_automata.specs.declared.moves.Patch.{Patch}
use Rattle.pattern_automata.specs.declared.named.Named.{Named}
use Rattle.pattern_automata.specs.Closed.{names_character}
use Rattle.pattern_automata.specs.Moves.{if_piece, distinguishes, IsPatch}
use Rattle.pattern_automata.specs.Packed.{is_bit_on}

-- the bits that stand at the first entry of the character
abbrev pub bits_of : List Named → ℕ → ℕ
bits_of [] c = 0
bits_of (x ∷ xs) c = cond (x.character == c) x.bits (bits_of xs c)

abbrev pub HasNone : ℕ → List Named → Type 0
HasNone c named = All (λ (x : Named). x.character ≢ c) named

-- the first entry of the character
pub record IsPosition (c : ℕ) (named : List Named) (i : ℕ) : Type 0 where
  pub within : i < length named
  pub is : (x : Named) → (slice_index_or named i x).character ≡ c
  pub first : HasNone c (take i named)

-- the character has got the bit, and no other one has
abbrev pub AddsBit : List Named → ℕ → ℕ → List Named → Type 0
AddsBit old c bit new = (d i : ℕ) → is_bit_on (bits_of new d) i ≡ (is_bit_on (bits_of old d) i || ((d == c) && (i == bit)))

abbrev pub AddsPiece : List Named → Piece → ℕ → List Named → Type 0
AddsPiece old piece bit new = (d i : ℕ) → is_bit_on (bits_of new d) i ≡ (is_bit_on (bits_of old d) i || (names_character piece d && (i == bit)))

-- whether there is a piece before the mark, and names the character
abbrev pub names_before : List (Option Piece) → ℕ → ℕ → Bool
names_before before j c = if_piece (λ p. names_character p c) (slice_index_or before j None)

abbrev pub AddsFront : List Named → Option Piece → ℕ → List Named → Type 0
AddsFront old front bit new =
    (d i : ℕ) → is_bit_on (bits_of new d) i ≡ (is_bit_on (bits_of old d) i || (if_piece (λ p. names_character p d) front && (i == bit)))

-- the bits of each character say before which of the marks from 64 * k on a piece names it
abbrev pub HasNamesAt : List (Option Piece) → ℕ → List Named → Type 0
HasNamesAt before k named = (c b : ℕ) → b < 64 → is_bit_on (bits_of named c) b ≡ names_before before (64 * k + b) c

-- the same of all words
pub record HaveNames (before : List (Option Piece)) (named : List (Vec Named Global)) : Type 0 where
  pub count : length named ≡ length before / 64 + 1
  pub each : (k : ℕ) (d : Vec Named Global) → k < length named → HasNamesAt before k (slice_index_or named k d).items

-- no piece before the marks of the word tells the character from others
abbrev pub IsLikeOthersAt : List (Option Piece) → ℕ → ℕ → Type 0
IsLikeOthersAt before k c = (j : ℕ) → j / 64 ≡ k → if_piece (distinguishes c) (slice_index_or before j None) ≡ true → ⊥

abbrev pub IsPatchAt : List (Option Piece) → ℕ → ℕ → Patch → Type 0
IsPatchAt before k c p = (p.index ≡ k) × IsPatch before c p

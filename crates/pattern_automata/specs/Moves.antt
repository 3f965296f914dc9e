-- What characters do to the marks of patterns, word by word.
use Rattle.std.specs.Prelude.{◌≡◌, ℕ, ◌+◌, ◌*◌, ◌/◌, ◌<◌, ◌≤◌, List, [], ◌∷◌, ◌++◌, length, map}
use Rattle.std.specs.Prelude.{slice_index_or, Option, None, Some, Bool, true, false, not, ◌&&◌, All, Any}
use Rattle.std.specs.Bool.{beq}
use Rattle.std.specs.Char.{IsScalar}
use Rattle.wildcard_lang.specs.declared.piece.Piece.{Piece}
use Rattle.wildcard_lang.specs.declared.piece.Piece.TheVariants.{Lit, LitFold, One, Many, OneNoColon, ManyNoColon}
use Rattle.wildcard_lang.specs.Matching.{takes, is_many}
use Rattle.pattern_automata.specs.declared.fronts.Kind.{Kind}
use Rattle.pattern_automata.specs.declared.fronts.Kind.TheVariants.{Passes, Keeps, PassesOthers, Leads}
use Rattle.pattern_automata.specs.declared.moves.Masks.{Masks}
use Rattle.pattern_automata.specs.declared.moves.Patch.{Patch}
use Rattle.pattern_automata.specs.declared.moves.Move.{Move}
use Rattle.pattern_automata.specs.Packed.{is_bit_on, word_mark}

-- whether the piece takes the characters that no piece names, the colon aside
abbrev pub takes_others : Piece → Bool
takes_others (Lit d) = false
takes_others (LitFold d) = false
takes_others One = true
takes_others Many = true
takes_others OneNoColon = true
takes_others ManyNoColon = true

-- whether the piece takes the character, but not those that no piece names, or the other way round
abbrev pub distinguishes : ℕ → Piece → Bool
distinguishes c p = not (beq (takes p c) (takes_others p))

-- whether the piece passes a mark on at c, or at others; keeps one at c; or is for any number of characters
abbrev pub piece_test : Kind → Piece → Bool
piece_test (Passes c) p = not (is_many p) && takes p c
piece_test (Keeps c) p = is_many p && takes p c
piece_test PassesOthers p = not (is_many p) && takes_others p
piece_test Leads p = is_many p

-- the piece before each mark of the patterns, where there is one
abbrev pub fronts : List (List Piece) → List (Option Piece)
fronts [] = []
fronts (p ∷ ps) = None ∷ (map Some p ++ fronts ps)

-- whether there is a piece and it passes the test
abbrev pub if_piece : (Piece → Bool) → Option Piece → Bool
if_piece test None = false
if_piece test (Some p) = test p

-- whether the piece before a mark does this
abbrev pub piece_does : Kind → List (Option Piece) → ℕ → Bool
piece_does kind before j = if_piece (piece_test kind) (slice_index_or before j None)

-- the words of the characters that no piece names
pub record IsMasks (before : List (Option Piece)) (m : Masks) : Type 0 where
  pub size : length m.one.items ≡ length before / 64 + 1
  pub many_size : length m.many.items ≡ length before / 64 + 1
  pub one : (j : ℕ) → word_mark m.one.items j ≡ piece_does PassesOthers before j
  pub many : (j : ℕ) → word_mark m.many.items j ≡ piece_does Leads before j

-- the piece before the mark does to it at the character what it does at those that no piece names
abbrev pub DoesAsForOthers : List (Option Piece) → ℕ → ℕ → Type 0
DoesAsForOthers before c j = (piece_does (Passes c) before j ≡ piece_does PassesOthers before j) × (piece_does (Keeps c) before j ≡ piece_does Leads before j)

-- the words of the character at the patch's index
pub record IsPatch (before : List (Option Piece)) (c : ℕ) (p : Patch) : Type 0 where
  pub within : 64 * p.index ≤ length before
  pub one : (b : ℕ) → b < 64 → is_bit_on p.one b ≡ piece_does (Passes c) before (64 * p.index + b)
  pub stay : (b : ℕ) → b < 64 → is_bit_on p.stay b ≡ piece_does (Keeps c) before (64 * p.index + b)
  pub differs : (b : ℕ) → b < 64 → is_bit_on p.differs b ≡ false → DoesAsForOthers before c (64 * p.index + b)

-- one of the patches is at the index
abbrev pub HasPatch : List Patch → ℕ → Type 0
HasPatch patches k = Any (λ (p : Patch). p.index ≡ k) patches

-- the patches are those of the character, one at least wherever one of the first n pieces tells it from others
pub record IsDistinguished (before : List (Option Piece)) (n c : ℕ) (patches : List Patch) : Type 0 where
  pub right : All (IsPatch before c) patches
  pub covers : (j : ℕ) → j < n → if_piece (distinguishes c) (slice_index_or before j None) ≡ true → HasPatch patches (j / 64)

-- what the character of the move does to the marks
pub record IsMove (before : List (Option Piece)) (m : Move) : Type 0 where
  pub scalar : IsScalar m.character
  pub distinguished : IsDistinguished before (length before) m.character m.patches.items

abbrev pub characters_of : List Move → List ℕ
characters_of moves = map (λ m. m.character) moves

-- Which patterns take all that another pattern takes, and which take nothing of it, by their pieces alone. Both are sound:
-- a pattern that covers another matches each text that the other matches, and no text is matched by patterns that clash. They aren't
-- complete: `*?` takes all of `?*` and doesn't cover it.
use Rattle.std.specs.Prelude.{◌≡◌, ℕ, List, [], ◌∷◌, map, Bool, true, false, not, ◌&&◌, ◌||◌, ◌↔◌, Any}
use Rattle.std.specs.Char.{to_ascii_uppercase}
use Rattle.std.specs.List.{list_any}
use Rattle.wildcard_lang.specs.declared.piece.Piece.{Piece}
use Rattle.wildcard_lang.specs.declared.piece.Piece.TheVariants.{Lit, LitFold, One, Many, OneNoColon, ManyNoColon}
use Rattle.wildcard_lang.specs.Matching.{takes, is_many, Matches}
use Rattle.wildcard_lang.specs.Patterns.{is_wide}
use Rattle.wildcard_lang.specs.Accepts.{accepts_by}

-- the piece takes each character that the other takes
abbrev pub TakesPiece : Piece → Piece → Type 0
TakesPiece a x = (c : ℕ) → takes x c ≡ true → takes a c ≡ true

-- the first pieces take what the others take, in the way in which pieces match the characters of a text
pub data CoversPattern : List Piece → List Piece → Type 0 where
  -- no pieces cover no pieces
  no_pieces : CoversPattern [] []
  -- a piece for one character takes such a piece
  takes_one : {a x : Piece} {q p : List Piece} → is_many a ≡ false → is_many x ≡ false → TakesPiece a x → CoversPattern q p →
      CoversPattern (a ∷ q) (x ∷ p)
  -- a piece for any number is done
  is_done : {a : Piece} {q p : List Piece} → is_many a ≡ true → CoversPattern q p → CoversPattern (a ∷ q) p
  -- or takes a piece, for one or for any number, and stays
  takes_more : {a x : Piece} {q p : List Piece} → is_many a ≡ true → TakesPiece a x → CoversPattern (a ∷ q) p →
      CoversPattern (a ∷ q) (x ∷ p)

-- no character is taken by both pieces
abbrev pub SharesNothing : Piece → Piece → Type 0
SharesNothing a x = (c : ℕ) → takes a c ≡ true → takes x c ≡ false

-- the patterns differ before the first piece for any number of either: at two pieces for one character that share none, or as one
-- pattern is at its end where the other still asks for a character
pub data Clash : List Piece → List Piece → Type 0 where
  differs : {a x : Piece} {q p : List Piece} → is_many a ≡ false → is_many x ≡ false → SharesNothing a x → Clash (a ∷ q) (x ∷ p)
  goes_on : {a x : Piece} {q p : List Piece} → is_many a ≡ false → is_many x ≡ false → Clash q p → Clash (a ∷ q) (x ∷ p)
  first_ends : {p : List Piece} → Any (λ x. is_many x ≡ false) p → Clash [] p
  second_ends : {q : List Piece} → Any (λ a. is_many a ≡ false) q → Clash q []

-- ---- tests that compute them

-- whether the piece is a wildcard
abbrev pub is_wildcard : Piece → Bool
is_wildcard (Lit c) = false
is_wildcard (LitFold c) = false
is_wildcard One = true
is_wildcard Many = true
is_wildcard OneNoColon = true
is_wildcard ManyNoColon = true

-- whether the piece takes each character that the other takes
abbrev pub takes_piece : Piece → Piece → Bool
takes_piece a (Lit d) = takes a d
takes_piece a (LitFold d) = takes a d && takes a (to_ascii_uppercase d)
takes_piece a One = is_wide a
takes_piece a Many = is_wide a
takes_piece a OneNoColon = is_wildcard a
takes_piece a ManyNoColon = is_wildcard a

-- as above, where a piece for one character takes none for any number
abbrev pub takes_next : Piece → Piece → Bool
takes_next a x = (is_many a || not (is_many x)) && takes_piece a x

-- whether the piece takes some character besides the colon
abbrev pub takes_no_colon : Piece → Bool
takes_no_colon (Lit c) = takes OneNoColon c
takes_no_colon (LitFold c) = takes OneNoColon c || takes OneNoColon (to_ascii_uppercase c)
takes_no_colon One = true
takes_no_colon Many = true
takes_no_colon OneNoColon = true
takes_no_colon ManyNoColon = true

-- whether some character is taken by both pieces
abbrev pub shares : Piece → Piece → Bool
shares a (Lit d) = takes a d
shares a (LitFold d) = takes a d || takes a (to_ascii_uppercase d)
shares a One = true
shares a Many = true
shares a OneNoColon = takes_no_colon a
shares a ManyNoColon = takes_no_colon a

-- whether the first pieces cover the others
abbrev pub covers : List Piece → List Piece → Bool
covers q p = accepts_by takes_next q p

-- whether a piece for one character is among them
abbrev pub has_one : List Piece → Bool
has_one ps = list_any (λ x. not (is_many x)) ps

-- whether the patterns clash
abbrev pub clashes : List Piece → List Piece → Bool
clashes [] p = has_one p
clashes (a ∷ q) [] = has_one (a ∷ q)
clashes (a ∷ q) (x ∷ p) = not (is_many a) && (not (is_many x) && (not (shares a x) || clashes q p))

-- ---- laws

-- what a pattern matches is matched by each pattern that covers it
abbrev pub CoveringIsInclusion : Type 0
CoveringIsInclusion = (q p : List Piece) (t : List ℕ) → CoversPattern q p → Matches p t → Matches q t

-- no text is matched by patterns that clash
abbrev pub ClashingIsDisjoint : Type 0
ClashingIsDisjoint = (q p : List Piece) (t : List ℕ) → Clash q p → Matches q t → Matches p t → ⊥

-- a pattern covers itself
abbrev pub CoveringIsReflexive : Type 0
CoveringIsReflexive = (p : List Piece) → CoversPattern p p

-- a star alone covers every pattern
abbrev pub StarsCoverAll : Type 0
StarsCoverAll = (p : List Piece) → CoversPattern (Many ∷ []) p

-- the literals of a text are covered by the patterns that match it, and by no others
abbrev pub LiteralsAreCovered : Type 0
LiteralsAreCovered = (q : List Piece) (t : List ℕ) → CoversPattern q (map Lit t) ↔ Matches q t

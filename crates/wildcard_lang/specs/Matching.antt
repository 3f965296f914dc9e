-- Which texts a pattern, a list of pieces, matches. These are the wildcards of the IAM policy language: `*` takes any number
-- of characters, none included, and `?` exactly one. A character is a Unicode scalar, the colon included; in the first five
-- parts of an ARN the wildcards take no colon.
use Rattle.std.specs.Prelude.{◌≡◌, ℕ, List, [], ◌∷◌, Bool, true, false, not, ◌||◌, ◌==◌}
use Rattle.std.specs.Char.{to_ascii_uppercase}
use Rattle.wildcard_lang.specs.declared.piece.Piece.{Piece}
use Rattle.wildcard_lang.specs.declared.piece.Piece.TheVariants.{Lit, LitFold, One, Many, OneNoColon, ManyNoColon}

-- whether the piece takes the character c: a folded letter takes itself or its ASCII capital
abbrev pub takes : Piece → ℕ → Bool
takes (Lit d) c = c == d
takes (LitFold d) c = (c == d) || (c == to_ascii_uppercase d)
takes One c = true
takes Many c = true
takes OneNoColon c = not (c == 58)
takes ManyNoColon c = not (c == 58)

-- whether the piece takes any number of characters
abbrev pub is_many : Piece → Bool
is_many (Lit d) = false
is_many (LitFold d) = false
is_many One = false
is_many Many = true
is_many OneNoColon = false
is_many ManyNoColon = true

-- the pieces match the text
pub data Matches : List Piece → List ℕ → Type 0 where
  -- no pieces match the empty text
  no_pieces : Matches [] []
  -- a piece for one character takes one
  takes_one : {p : Piece} {ps : List Piece} {c : ℕ} {t : List ℕ} → is_many p ≡ false → takes p c ≡ true → Matches ps t →
      Matches (p ∷ ps) (c ∷ t)
  -- a piece for any number is done
  is_done : {p : Piece} {ps : List Piece} {t : List ℕ} → is_many p ≡ true → Matches ps t → Matches (p ∷ ps) t
  -- or takes one and stays
  takes_more : {p : Piece} {ps : List Piece} {c : ℕ} {t : List ℕ} → is_many p ≡ true → takes p c ≡ true → Matches (p ∷ ps) t →
      Matches (p ∷ ps) (c ∷ t)

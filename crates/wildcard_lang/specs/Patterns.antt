-- Which lists of pieces are patterns.
use Rattle.std.specs.Prelude.{◌≡◌, ◌≤◌, ℕ, List, [], ◌∷◌, length, Bool, true, false, if◌then◌else◌}
use Rattle.std.specs.List.{list_all, flat_map}
use Rattle.std.specs.Char.{is_ascii_lowercase}
use Rattle.wildcard_lang.specs.Text.{IsText}
use Rattle.wildcard_lang.specs.declared.piece.Piece.{Piece}
use Rattle.wildcard_lang.specs.declared.piece.Piece.TheVariants.{Lit, LitFold, One, Many, OneNoColon, ManyNoColon}
use Rattle.wildcard_lang.specs.declared.pattern.TheConstants.{MOST_PIECES}

-- the character of a literal piece
abbrev pub own_character : Piece → List ℕ
own_character (Lit c) = c ∷ []
own_character (LitFold c) = c ∷ []
own_character One = []
own_character Many = []
own_character OneNoColon = []
own_character ManyNoColon = []

-- a folded piece holds a lower-case ASCII letter
abbrev pub is_lower : Piece → Bool
is_lower (Lit c) = true
is_lower (LitFold c) = is_ascii_lowercase c
is_lower One = true
is_lower Many = true
is_lower OneNoColon = true
is_lower ManyNoColon = true

-- a wildcard that takes colons, and one that takes none
abbrev pub is_wide : Piece → Bool
is_wide (Lit c) = false
is_wide (LitFold c) = false
is_wide One = true
is_wide Many = true
is_wide OneNoColon = false
is_wide ManyNoColon = false

abbrev pub is_not_narrow : Piece → Bool
is_not_narrow (Lit c) = true
is_not_narrow (LitFold c) = true
is_not_narrow One = true
is_not_narrow Many = true
is_not_narrow OneNoColon = false
is_not_narrow ManyNoColon = false

-- no wildcard that takes colons stands before one that takes none
abbrev pub narrow_first : List Piece → Bool
narrow_first [] = true
narrow_first (p ∷ ps) = (if is_wide p then list_all is_not_narrow ps else narrow_first ps)

-- a pattern has at most 2,048 pieces, its literals are Unicode scalars, its folded literals lower-case ASCII letters, and its
-- wildcards that take no colon stand before those that do
pub record IsPattern (ps : List Piece) : Type 0 where
  pub fits : length ps ≤ MOST_PIECES
  pub scalars : IsText (flat_map own_character ps)
  pub lower : list_all is_lower ps ≡ true
  pub narrow : narrow_first ps ≡ true

-- what is so of each part of a pattern: its folded pieces hold lower-case letters, and its wildcards that take no colon stand before those that do
abbrev pub IsPatternPart : List Piece → Type 0
IsPatternPart ps = (list_all is_lower ps ≡ true) × (narrow_first ps ≡ true)

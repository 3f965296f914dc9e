-- How a pattern is written: the form that readers with escapes take, where the plain characters `*`, `?` and `$` stand as escapes,
-- and the form that readers without escapes take, where each character stands as itself.
use Rattle.std.specs.Prelude.{ℕ, List, [], ◌∷◌, map, if◌then◌else◌}
use Rattle.std.specs.List.{flat_map}
use Rattle.wildcard_lang.specs.declared.piece.Piece.{Piece}
use Rattle.wildcard_lang.specs.declared.piece.Piece.TheVariants.{Lit, LitFold, One, Many, OneNoColon, ManyNoColon}
use Rattle.wildcard_lang.specs.Symbols.{is_mark}

-- a plain character: `*`, `?` and `$` as an escape, any other as itself
abbrev pub plain_form : ℕ → List ℕ
plain_form c = (if is_mark c then 36 ∷ 123 ∷ c ∷ 125 ∷ [] else c ∷ [])

-- a piece: a wildcard as `?` or `*`, and a folded letter as itself
abbrev pub piece_form : Piece → List ℕ
piece_form (Lit c) = plain_form c
piece_form (LitFold c) = c ∷ []
piece_form One = 63 ∷ []
piece_form Many = 42 ∷ []
piece_form OneNoColon = 63 ∷ []
piece_form ManyNoColon = 42 ∷ []

-- the pieces, one after another
abbrev pub written_form : List Piece → List ℕ
written_form ps = flat_map piece_form ps

-- the character of a piece where no escapes are read: a wildcard's is `?` or `*`
abbrev pub piece_character : Piece → ℕ
piece_character (Lit c) = c
piece_character (LitFold c) = c
piece_character One = 63
piece_character Many = 42
piece_character OneNoColon = 63
piece_character ManyNoColon = 42

-- the pieces of an action's pattern, one after another: policies write actions without escapes
abbrev pub action_form : List Piece → List ℕ
action_form ps = map piece_character ps

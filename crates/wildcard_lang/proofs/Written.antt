-- What is written is a text.
use Rattle.std.proofs.Common.{◌≡◌, ℕ, true, List, [], ◌∷◌, ◌++◌, refl, ◌≤◌, length, take, ap, arith}
use Rattle.std.proofs.Math.Utf8.{scalar}
use Rattle.std.proofs.lemmas.Bool.{cond_both, and_parts, and_from}
use Rattle.std.proofs.lemmas.List.{take_all}
use Rattle.std.specs.List.{flat_map}
use Rattle.wildcard_lang.specs.declared.piece.Piece.{Piece}
use Rattle.wildcard_lang.specs.declared.piece.Piece.TheVariants.{Lit, LitFold, One, Many, OneNoColon, ManyNoColon}
use Rattle.wildcard_lang.specs.Text.{IsText}
use Rattle.wildcard_lang.specs.Patterns.{own_character}
use Rattle.wildcard_lang.specs.Symbols.{is_mark}
use Rattle.wildcard_lang.specs.Writing.{plain_form, piece_form, written_form, piece_character, action_form}
use Rattle.wildcard_lang.proofs.PatternRules.{IsText-append}

IsText-plain : (c : ℕ) → scalar c ≡ true → IsText (plain_form c)
IsText-plain c h =
    cond_both (is_mark c) (36 ∷ 123 ∷ c ∷ 125 ∷ []) (c ∷ []) IsText (λ e. and_from _ _ h refl) (λ e. and_from _ _ h refl)

IsText-piece : (p : Piece) → IsText (own_character p) → IsText (piece_form p)
IsText-piece (Lit c) h = IsText-plain c ((and_parts _ _ h).0)
IsText-piece (LitFold c) h = h
IsText-piece One h = refl
IsText-piece Many h = refl
IsText-piece OneNoColon h = refl
IsText-piece ManyNoColon h = refl

IsText-front : (t u : List ℕ) → IsText (t ++ u) → IsText t × IsText u
IsText-front [] u h = (refl, h)
IsText-front (c ∷ t) u h =
    let parts : (scalar c ≡ true) × IsText (t ++ u) = and_parts _ _ h in
    let rest : IsText t × IsText u = IsText-front t u parts.1 in
    (and_from _ _ parts.0 rest.0, rest.1)

pub IsText-written : (ps : List Piece) → IsText (flat_map own_character ps) → IsText (written_form ps)
IsText-written [] h = refl
IsText-written (p ∷ ps) h =
    let parts : IsText (own_character p) × IsText (flat_map own_character ps) = IsText-front (own_character p) (flat_map own_character ps) h in
    IsText-append (piece_form p) (written_form ps) (IsText-piece p parts.0) (IsText-written ps parts.1)

-- where the pieces up to the last are written
pub IsText-all : (ps qs : List Piece) (written : List ℕ) (i : ℕ) → qs ≡ ps → IsText (flat_map own_character ps) → written ≡ written_form (take i ps) → length qs ≤ i → IsText written
IsText-all ps qs written i same text made end =
    let whole : length ps ≤ i = omega (arith, ap length same) in
    rw (made, take_all i ps whole) (IsText-written ps text)

-- what is written of an action is a text
scalar-character : (p : Piece) → IsText (own_character p) → scalar (piece_character p) ≡ true
scalar-character (Lit c) h = (and_parts _ _ h).0
scalar-character (LitFold c) h = (and_parts _ _ h).0
scalar-character One h = refl
scalar-character Many h = refl
scalar-character OneNoColon h = refl
scalar-character ManyNoColon h = refl

pub IsText-action : (ps : List Piece) → IsText (flat_map own_character ps) → IsText (action_form ps)
IsText-action [] h = refl
IsText-action (p ∷ ps) h =
    let parts : IsText (own_character p) × IsText (flat_map own_character ps) = IsText-front (own_character p) (flat_map own_character ps) h in
    and_from _ _ (scalar-character p parts.0) (IsText-action ps parts.1)

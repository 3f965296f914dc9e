-- What the patterns name, pattern by pattern.
use Rattle.std.proofs.Common.{◌≡◌, ℕ, ◌+◌, ◌<◌, List, [], ◌∷◌, ◌++◌, length, get_or, ◌||◌, refl, ap, ◌∙◌, arith, take}
use Rattle.std.proofs.lemmas.List.{take_more}
use Rattle.wildcard_lang.specs.declared.piece.Piece.{Piece}
use Rattle.pattern_automata.specs.Closed.{names_any, is_named_character}

named-push : (ps : List (List Piece)) (p : List Piece) (d : ℕ) → is_named_character (ps ++ p ∷ []) d ≡ (is_named_character ps d || names_any p d)
named-push [] p d = grind arith
named-push (q ∷ ps) p d = grind (arith, named-push ps p d)

pub named-more : (ps : List (List Piece)) (i : ℕ) (p : List Piece) (d : ℕ) → i < length ps → p ≡ get_or ps i p →
    is_named_character (take (i + 1) ps) d ≡ (is_named_character (take i ps) d || names_any p d)
named-more ps i p d h read = ap (λ x. is_named_character x d) (take_more ps i p h) ∙ (named-push (take i ps) (get_or ps i p) d ∙ rw (← read) refl)

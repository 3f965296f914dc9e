-- The pieces of an ARN's pattern.
use Rattle.std.proofs.Common.{◌≡◌, ℕ, zero, suc, ◌+◌, ◌<◌, ◌≤◌, Bool, true, false, List, [], ◌∷◌, ◌++◌, append_assoc, drop, get_or, map, length, refl, sym, ap, ◌∙◌, subst, Some}
use Rattle.std.proofs.lemmas.List.{append-nil, at_drop_more, drop_all}
use Rattle.std.proofs.lemmas.Bool.{and_parts}
use Rattle.std.specs.List.{list_all, flat_map}
use Rattle.wildcard_lang.specs.declared.pattern.TheConstants.{MOST_PIECES}
use Rattle.wildcard_lang.specs.declared.piece.Piece.{Piece}
use Rattle.wildcard_lang.specs.declared.piece.Piece.TheVariants.{Lit, LitFold, One, Many, OneNoColon, ManyNoColon}
use Rattle.wildcard_lang.specs.declared.symbol.Symbol.{Symbol}
use Rattle.wildcard_lang.specs.Text.{IsText}
use Rattle.wildcard_lang.specs.Patterns.{own_character, is_lower, is_wide, is_not_narrow, narrow_first, IsPattern}
use Rattle.wildcard_lang.specs.Symbols.{character, symbols}
use Rattle.wildcard_lang.specs.Reading.{wildcard_of}
use Rattle.wildcard_lang.specs.Arns.{narrow_piece, narrow_before, colons_left, narrowed_pieces}
use Rattle.wildcard_lang.proofs.PatternRules.{narrow_first-none, Keeps, Keeps-wildcard, IsText-read, IsText-pieces, list_all-pieces}

own-narrow : (p : Piece) → own_character (narrow_piece p) ≡ own_character p
own-narrow (Lit c) = refl
own-narrow (LitFold c) = refl
own-narrow One = refl
own-narrow Many = refl
own-narrow OneNoColon = refl
own-narrow ManyNoColon = refl

lower-narrow : (p : Piece) → is_lower (narrow_piece p) ≡ is_lower p
lower-narrow (Lit c) = refl
lower-narrow (LitFold c) = refl
lower-narrow One = refl
lower-narrow Many = refl
lower-narrow OneNoColon = refl
lower-narrow ManyNoColon = refl

wide-narrow : (p : Piece) → is_wide (narrow_piece p) ≡ false
wide-narrow (Lit c) = refl
wide-narrow (LitFold c) = refl
wide-narrow One = refl
wide-narrow Many = refl
wide-narrow OneNoColon = refl
wide-narrow ManyNoColon = refl

own-before : (k : ℕ) (p : Piece) → own_character (narrow_before k p) ≡ own_character p
own-before zero p = refl
own-before (suc k) p = own-narrow p

lower-before : (k : ℕ) (p : Piece) → is_lower (narrow_before k p) ≡ is_lower p
lower-before zero p = refl
lower-before (suc k) p = lower-narrow p

length-narrowed : (k : ℕ) (ps : List Piece) → length (narrowed_pieces k ps) ≡ length ps
length-narrowed k [] = refl
length-narrowed k (p ∷ ps) = ap suc (length-narrowed (colons_left k p) ps)

own-narrowed : (k : ℕ) (ps : List Piece) → flat_map own_character (narrowed_pieces k ps) ≡ flat_map own_character ps
own-narrowed k [] = refl
own-narrowed k (p ∷ ps) = rw (own-before k p, own-narrowed (colons_left k p) ps) refl

lower-narrowed : (k : ℕ) (ps : List Piece) → list_all is_lower (narrowed_pieces k ps) ≡ list_all is_lower ps
lower-narrowed k [] = refl
lower-narrowed k (p ∷ ps) = rw (lower-before k p, lower-narrowed (colons_left k p) ps) refl

pub narrowed-none : (ps : List Piece) → narrowed_pieces zero ps ≡ ps
narrowed-none [] = refl
narrowed-none (p ∷ ps) = ap (λ (qs : List Piece). p ∷ qs) (narrowed-none ps)

narrow_first-narrowed : (k : ℕ) (ps : List Piece) → list_all is_not_narrow ps ≡ true → narrow_first (narrowed_pieces k ps) ≡ true
narrow_first-narrowed k [] h = refl
narrow_first-narrowed zero (p ∷ ps) h = rw (narrowed-none ps) (narrow_first-none (p ∷ ps) h)
narrow_first-narrowed (suc k) (p ∷ ps) h =
    rw (wide-narrow p) (narrow_first-narrowed (colons_left (suc k) p) ps ((and_parts _ _ h).1))

pub IsPattern-narrowed : (k : ℕ) (ps : List Piece) → IsText (flat_map own_character ps) → list_all is_lower ps ≡ true → list_all is_not_narrow ps ≡ true → length (narrowed_pieces k ps) ≤ MOST_PIECES → IsPattern (narrowed_pieces k ps)
IsPattern-narrowed k ps text lower wide fits = record {
  fits = fits;
  scalars = rw (own-narrowed k ps) text;
  lower = lower-narrowed k ps ∙ lower;
  narrow = narrow_first-narrowed k ps wide;
}

-- what the reader of ARNs hands to a pattern
pub IsPattern-arn : (escapes : Bool) (cs : List ℕ) (ss : List Symbol) (wide ps : List Piece) → IsText cs → symbols escapes cs ≡ Some ss →
    wide ≡ map (wildcard_of false) ss → ps ≡ narrowed_pieces 5 wide → length ps ≤ MOST_PIECES → IsPattern ps
IsPattern-arn escapes cs ss wide ps text read made parts fits =
    let each : Keeps (wildcard_of false) = Keeps-wildcard false in
    let own : IsText (map character ss) = IsText-read escapes cs ss text read in
    let short : length (narrowed_pieces 5 (map (wildcard_of false) ss)) ≤ MOST_PIECES = subst (λ qs. length (narrowed_pieces 5 qs) ≤ MOST_PIECES) made (subst (λ qs. length qs ≤ MOST_PIECES) parts fits) in
    rw (parts, made) (IsPattern-narrowed 5 (map (wildcard_of false) ss) (IsText-pieces (wildcard_of false) each ss own) (list_all-pieces (wildcard_of false) is_lower each.lower ss) (list_all-pieces (wildcard_of false) is_not_narrow each.wide ss) short)

-- one more piece
pub narrowed-next : (pieces parts new : List Piece) (i left next : ℕ) (made d : Piece) → i < length pieces → made ≡ narrow_before left (get_or pieces i d) → next ≡ colons_left left (get_or pieces i d) →
    new ≡ parts ++ made ∷ [] → parts ++ narrowed_pieces left (drop i pieces) ≡ narrowed_pieces 5 pieces → new ++ narrowed_pieces next (drop (i + 1) pieces) ≡ narrowed_pieces 5 pieces
narrowed-next pieces parts new i left next made d within is step pushed so_far =
    let rest : drop i pieces ≡ get_or pieces i d ∷ drop (i + 1) pieces = at_drop_more (λ ps. ps) pieces i d within in
    let here : parts ++ made ∷ narrowed_pieces next (drop (i + 1) pieces) ≡ narrowed_pieces 5 pieces = rw (is, step) (rw rest at so_far) in
    rw pushed (append_assoc parts (made ∷ []) (narrowed_pieces next (drop (i + 1) pieces)) ∙ here)

pub narrowed-end : (pieces parts : List Piece) (i left : ℕ) → length pieces ≤ i → parts ++ narrowed_pieces left (drop i pieces) ≡ narrowed_pieces 5 pieces → parts ≡ narrowed_pieces 5 pieces
narrowed-end pieces parts i left end all =
    let none : drop i pieces ≡ [] = drop_all i pieces end in
    sym (append-nil parts) ∙ (rw none at all)

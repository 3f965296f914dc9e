-- Which texts literal patterns match.
use Rattle.std.proofs.Common.{◌≡◌, ◌↔◌, ℕ, Bool, true, false, List, [], ◌∷◌, map, Option, Some, None, option_map, refl, sym, ap, ◌∙◌, subst, inl, inr, arith, ◌&&◌, ◌==◌}
use Rattle.std.proofs.lemmas.Bool.{cond_both, cases_lt, or_cases, or_left, or_right, eqb-true, eq-eqb}
use Rattle.std.proofs.lemmas.Bool.Decides.{nat_tests}
use Rattle.std.specs.Char.{to_ascii_lowercase, to_ascii_uppercase, is_ascii_alphabetic}
use Rattle.wildcard_lang.specs.declared.piece.Piece.{Piece}
use Rattle.wildcard_lang.specs.declared.piece.Piece.TheVariants.{Lit, LitFold}
use Rattle.wildcard_lang.specs.declared.symbol.Symbol.{Symbol}
use Rattle.wildcard_lang.specs.declared.symbol.Symbol.TheVariants.{Written, Escaped}
use Rattle.wildcard_lang.specs.Text.{folded_text}
use Rattle.wildcard_lang.specs.Matching.{takes, is_many, Matches, no_pieces, takes_one}
use Rattle.wildcard_lang.specs.Symbols.{character, symbols}
use Rattle.wildcard_lang.specs.Reading.{literal, literals, literal_of}
use Rattle.wildcard_lang.specs.Meanings.{IsSameCharacter, LiteralMatchesItself, FoldedLiteralMatchesEitherCase}
use Rattle.wildcard_lang.proofs.Inversions.{empty_left, OneTaken, one_left}
use Rattle.wildcard_lang.proofs.Texts.{lower_lower}

-- ---- the piece of a plain character

pub one-literal : (fold : Bool) (d : ℕ) → is_many (literal fold d) ≡ false
one-literal fold d = cond_both (fold && is_ascii_alphabetic d) (LitFold (to_ascii_lowercase d)) (Lit d) (λ p. is_many p ≡ false) (λ e. refl) (λ e. refl)

lower_upper_lower : (c : ℕ) → to_ascii_lowercase (to_ascii_uppercase (to_ascii_lowercase c)) ≡ to_ascii_lowercase c
lower_upper_lower c = grind (arith, nat_tests)

folded_taken : (d c : ℕ) → takes (LitFold (to_ascii_lowercase d)) c ≡ true → to_ascii_lowercase c ≡ to_ascii_lowercase d
folded_taken d c h =
    elim (or_cases (c == to_ascii_lowercase d) _ h) [
      | inl e ↦ ap to_ascii_lowercase (eqb-true c (to_ascii_lowercase d) e) ∙ lower_lower d
      | inr e ↦ ap to_ascii_lowercase (eqb-true c (to_ascii_uppercase (to_ascii_lowercase d)) e) ∙ lower_upper_lower d
    ]

either_case : (d c : ℕ) → to_ascii_lowercase c ≡ to_ascii_lowercase d → (c ≡ to_ascii_lowercase d → takes (LitFold (to_ascii_lowercase d)) c ≡ true) →
    (c ≡ to_ascii_uppercase (to_ascii_lowercase d) → takes (LitFold (to_ascii_lowercase d)) c ≡ true) → is_ascii_alphabetic d ≡ true → takes (LitFold (to_ascii_lowercase d)) c ≡ true
either_case d c e low up letter =
    elim (cases_lt c 65) [
      | inl below ↦ low (grind (arith, nat_tests))
      | inr from ↦ elim (cases_lt c 91) [
        | inl capital ↦ up (grind (arith, nat_tests))
        | inr above ↦ low (grind (arith, nat_tests))
      ]
    ]

takes_folded : (d c : ℕ) → is_ascii_alphabetic d ≡ true → to_ascii_lowercase c ≡ to_ascii_lowercase d → takes (LitFold (to_ascii_lowercase d)) c ≡ true
takes_folded d c letter e =
    either_case d c e (λ q. or_left _ _ (eq-eqb c (to_ascii_lowercase d) q)) (λ q. or_right _ _ (eq-eqb c (to_ascii_uppercase (to_ascii_lowercase d)) q)) letter

other_case : (d c : ℕ) → is_ascii_alphabetic d ≡ false → to_ascii_lowercase c ≡ to_ascii_lowercase d → c ≡ d
other_case d c other e = grind (arith, nat_tests)

pub same-taken : (fold : Bool) (d c : ℕ) → takes (literal fold d) c ≡ true → IsSameCharacter fold d c
same-taken false d c h = eqb-true c d h
same-taken true d c h =
    cond_both (is_ascii_alphabetic d) (LitFold (to_ascii_lowercase d)) (Lit d) (λ p. takes p c ≡ true → to_ascii_lowercase c ≡ to_ascii_lowercase d)
    (λ e taken. folded_taken d c taken) (λ e taken. ap to_ascii_lowercase (eqb-true c d taken)) h

pub takes-same : (fold : Bool) (d c : ℕ) → IsSameCharacter fold d c → takes (literal fold d) c ≡ true
takes-same false d c h = eq-eqb c d h
takes-same true d c h =
    cond_both (is_ascii_alphabetic d) (LitFold (to_ascii_lowercase d)) (Lit d) (λ p. takes p c ≡ true)
    (λ e. takes_folded d c e h) (λ e. eq-eqb c d (other_case d c e h))

-- ---- literals

pub exact-matched : (cs t : List ℕ) → Matches (literals false cs) t → t ≡ cs
exact-matched [] t m = empty_left t m
exact-matched (d ∷ cs) t m =
    let o : OneTaken (literal false d) (literals false cs) t = one_left (literal false d) (literals false cs) t (one-literal false d) m in
    let here : o.first ≡ d = same-taken false d o.first o.taken in
    let rest : o.rest ≡ cs = exact-matched cs o.rest o.matches in
    o.is ∙ ap (λ (c : ℕ). c ∷ o.rest) here ∙ ap (λ (u : List ℕ). d ∷ u) rest

pub exact-matches : (cs : List ℕ) → Matches (literals false cs) cs
exact-matches [] = no_pieces
exact-matches (d ∷ cs) = takes_one (one-literal false d) (takes-same false d d refl) (exact-matches cs)

pub folded-matched : (cs t : List ℕ) → Matches (literals true cs) t → folded_text t ≡ folded_text cs
folded-matched [] t m = ap folded_text (empty_left t m)
folded-matched (d ∷ cs) t m =
    let o : OneTaken (literal true d) (literals true cs) t = one_left (literal true d) (literals true cs) t (one-literal true d) m in
    let here : to_ascii_lowercase o.first ≡ to_ascii_lowercase d = same-taken true d o.first o.taken in
    let rest : folded_text o.rest ≡ folded_text cs = folded-matched cs o.rest o.matches in
    ap folded_text o.is ∙ ap (λ (c : ℕ). c ∷ folded_text o.rest) here ∙ ap (λ (u : List ℕ). to_ascii_lowercase d ∷ u) rest

pub folded-matches : (cs t : List ℕ) → folded_text t ≡ folded_text cs → Matches (literals true cs) t
folded-matches [] [] e = no_pieces
folded-matches [] (c ∷ t) e = absurd (cc)
folded-matches (d ∷ cs) [] e = absurd (cc)
folded-matches (d ∷ cs) (c ∷ t) e =
    let here : to_ascii_lowercase c ≡ to_ascii_lowercase d = cc in
    let rest : folded_text t ≡ folded_text cs = cc in
    takes_one (one-literal true d) (takes-same true d c here) (folded-matches cs t rest)

-- ---- what was read

pub literals_of-character : (fold : Bool) (ss : List Symbol) → map (literal_of fold) ss ≡ literals fold (map character ss)
literals_of-character fold [] = refl
literals_of-character fold (Written c ∷ ss) = ap (λ (ps : List Piece). literal fold c ∷ ps) (literals_of-character fold ss)
literals_of-character fold (Escaped c ∷ ss) = ap (λ (ps : List Piece). literal fold c ∷ ps) (literals_of-character fold ss)

-- the pieces are those of the plain text
read_plain : (fold : Bool) (read : Option (List Symbol)) (ps : List Piece) → option_map (map (literal_of fold)) read ≡ Some ps → (P : Option (List ℕ) → List Piece → Type 0) →
    ((us : List ℕ) → P (Some us) (literals fold us)) → P (option_map (map character) read) ps
read_plain fold None ps e P each = absurd (cc)
read_plain fold (Some ss) ps e P each =
    let own : literals fold (map character ss) ≡ ps = let made : map (literal_of fold) ss ≡ ps = cc in sym (literals_of-character fold ss) ∙ made in
    subst (P (Some (map character ss))) own (each (map character ss))

some_same : (us t : List ℕ) → Some us ≡ Some t → t ≡ us
some_same us t e = cc

exact_for : (t us : List ℕ) → Matches (literals false us) t ↔ (Some us ≡ Some t)
exact_for t us = (
  λ m. ap Some (sym (exact-matched us t m)),
  λ e. subst (Matches (literals false us)) (sym (some_same us t e)) (exact-matches us),
)

folded_for : (t us : List ℕ) → Matches (literals true us) t ↔ (Some (folded_text us) ≡ Some (folded_text t))
folded_for t us = (
  λ m. ap Some (sym (folded-matched us t m)),
  λ e. folded-matches us t (some_same (folded_text us) (folded_text t) e),
)

pub literal_matches : LiteralMatchesItself
literal_matches escapes cs ps t read = read_plain false (symbols escapes cs) ps read (λ o qs. Matches qs t ↔ (o ≡ Some t)) (exact_for t)

pub folded_literal_matches : FoldedLiteralMatchesEitherCase
folded_literal_matches escapes cs ps t read =
    read_plain true (symbols escapes cs) ps read (λ o qs. Matches qs t ↔ (option_map folded_text o ≡ Some (folded_text t))) (folded_for t)

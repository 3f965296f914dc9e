-- Which texts patterns with wildcards match.
use Rattle.std.proofs.Common.{◌≡◌, ◌↔◌, ℕ, Bool, true, false, List, [], ◌∷◌, map, Option, Some, None, option_map, refl, sym, ap, ◌∙◌, subst, inl, inr, arith, ◌==◌}
use Rattle.std.proofs.lemmas.Bool.{cases_Bool}
use Rattle.std.proofs.lemmas.Bool.Decides.{nat_tests}
use Rattle.std.specs.List.{list_all}
use Rattle.wildcard_lang.specs.declared.piece.Piece.{Piece}
use Rattle.wildcard_lang.specs.declared.piece.Piece.TheVariants.{One, Many}
use Rattle.wildcard_lang.specs.declared.symbol.Symbol.{Symbol}
use Rattle.wildcard_lang.specs.declared.symbol.Symbol.TheVariants.{Written, Escaped}
use Rattle.wildcard_lang.specs.Matching.{takes, Matches, no_pieces, takes_one}
use Rattle.wildcard_lang.specs.Symbols.{character, symbols}
use Rattle.wildcard_lang.specs.Reading.{literal, wildcard_of}
use Rattle.wildcard_lang.specs.Meanings.{is_star, is_question_mark, HasForm, no_symbols, star, question_mark, plain, GlobMatchesItsForm}
use Rattle.wildcard_lang.proofs.Inversions.{empty_left, OneTaken, one_left, RunTaken, many_left, many_right}
use Rattle.wildcard_lang.proofs.Literals.{one-literal, same-taken, takes-same}

-- ---- the piece of each symbol

pub star-piece : (fold : Bool) (s : Symbol) → is_star s ≡ true → wildcard_of fold s ≡ Many
star-piece fold (Written c) e = rw e refl
star-piece fold (Escaped c) e = absurd (cc)

star_or_not : (c : ℕ) → (c == 63) ≡ true → (c == 42) ≡ false
star_or_not c e = grind (arith, nat_tests)

pub question_mark-piece : (fold : Bool) (s : Symbol) → is_question_mark s ≡ true → wildcard_of fold s ≡ One
question_mark-piece fold (Written c) e = rw (star_or_not c e, e) refl
question_mark-piece fold (Escaped c) e = absurd (cc)

pub plain-piece : (fold : Bool) (s : Symbol) → is_star s ≡ false → is_question_mark s ≡ false → wildcard_of fold s ≡ literal fold (character s)
plain-piece fold (Written c) e q = rw (e, q) refl
plain-piece fold (Escaped c) e q = refl

all_taken : (run : List ℕ) → list_all (takes Many) run ≡ true
all_taken [] = refl
all_taken (c ∷ run) = all_taken run

-- ---- the whole

at_star : (fold : Bool) (s : Symbol) (ss : List Symbol) (t : List ℕ) → is_star s ≡ true → (r : RunTaken Many (map (wildcard_of fold) ss) t) → HasForm fold ss r.rest → HasForm fold (s ∷ ss) t
at_star fold s ss t e r form = star r.run r.rest e r.is form

at_question_mark : (fold : Bool) (s : Symbol) (ss : List Symbol) (t : List ℕ) → is_question_mark s ≡ true → (o : OneTaken One (map (wildcard_of fold) ss) t) → HasForm fold ss o.rest → HasForm fold (s ∷ ss) t
at_question_mark fold s ss t q o form = subst (HasForm fold (s ∷ ss)) (sym o.is) (question_mark q form)

at_plain : (fold : Bool) (s : Symbol) (ss : List Symbol) (t : List ℕ) → is_star s ≡ false → is_question_mark s ≡ false →
    (o : OneTaken (literal fold (character s)) (map (wildcard_of fold) ss) t) → HasForm fold ss o.rest → HasForm fold (s ∷ ss) t
at_plain fold s ss t e q o form = subst (HasForm fold (s ∷ ss)) (sym o.is) (plain e q (same-taken fold (character s) o.first o.taken) form)

pub form-matched : (fold : Bool) (ss : List Symbol) (t : List ℕ) → Matches (map (wildcard_of fold) ss) t → HasForm fold ss t
form-matched fold [] t m = subst (HasForm fold []) (sym (empty_left t m)) no_symbols
form-matched fold (s ∷ ss) t m =
    let more : List Piece = map (wildcard_of fold) ss in
    let first : (p : Piece) → wildcard_of fold s ≡ p → Matches (p ∷ more) t = λ p e. subst (λ q. Matches (q ∷ more) t) e m in
    elim (cases_Bool (is_star s)) [
      | inl e ↦
          let r : RunTaken Many more t = many_left Many more t refl (first Many (star-piece fold s e)) in
          at_star fold s ss t e r (form-matched fold ss r.rest r.matches)
      | inr e ↦ elim (cases_Bool (is_question_mark s)) [
        | inl q ↦
            let o : OneTaken One more t = one_left One more t refl (first One (question_mark-piece fold s q)) in
            at_question_mark fold s ss t q o (form-matched fold ss o.rest o.matches)
        | inr q ↦
            let d : ℕ = character s in
            let o : OneTaken (literal fold d) more t = one_left (literal fold d) more t (one-literal fold d) (first (literal fold d) (plain-piece fold s e q)) in
            at_plain fold s ss t e q o (form-matched fold ss o.rest o.matches)
      ]
    ]

with_piece : (fold : Bool) (s : Symbol) (ss : List Symbol) (p : Piece) (t : List ℕ) → wildcard_of fold s ≡ p → Matches (p ∷ map (wildcard_of fold) ss) t → Matches (map (wildcard_of fold) (s ∷ ss)) t
with_piece fold s ss p t e m = subst (λ q. Matches (q ∷ map (wildcard_of fold) ss) t) (sym e) m

pub form-matches : (fold : Bool) (ss : List Symbol) (t : List ℕ) → HasForm fold ss t → Matches (map (wildcard_of fold) ss) t
form-matches fold [] [] no_symbols = no_pieces
form-matches fold [] (c ∷ t) f = elim f [ ]
form-matches fold (s ∷ ss) t (star run rest e is f) =
    with_piece fold s ss Many t (star-piece fold s e)
    (subst (Matches (Many ∷ map (wildcard_of fold) ss)) (sym is) (many_right Many (map (wildcard_of fold) ss) run rest refl (all_taken run) (form-matches fold ss rest f)))
form-matches fold (s ∷ ss) (c ∷ t) (question_mark q f) = with_piece fold s ss One (c ∷ t) (question_mark-piece fold s q) (takes_one refl refl (form-matches fold ss t f))
form-matches fold (s ∷ ss) (c ∷ t) (plain e q same f) =
    with_piece fold s ss (literal fold (character s)) (c ∷ t) (plain-piece fold s e q)
    (takes_one (one-literal fold (character s)) (takes-same fold (character s) c same) (form-matches fold ss t f))

read_form : (fold : Bool) (read : Option (List Symbol)) (ss : List Symbol) (ps : List Piece) → read ≡ Some ss → option_map (map (wildcard_of fold)) read ≡ Some ps → map (wildcard_of fold) ss ≡ ps
read_form fold None ss ps e f = absurd (cc)
read_form fold (Some us) ss ps e f =
    let same : us ≡ ss = cc in
    let made : map (wildcard_of fold) us ≡ ps = cc in
    ap (map (wildcard_of fold)) (sym same) ∙ made

pub glob_matches : GlobMatchesItsForm
glob_matches fold escapes cs ss ps t read made =
    subst (λ qs. Matches qs t ↔ HasForm fold ss t) (read_form fold (symbols escapes cs) ss ps read made) (form-matched fold ss t, form-matches fold ss t)

-- A closed set has the places of each text, so no text meets the clauses.
use Rattle.std.proofs.Common.{◌≡◌, ℕ, zero, suc, ◌+◌, ◌<◌, ◌⊎◌, List, [], ◌∷◌, ◌++◌, length, get_or, Bool, true, false, not, ◌&&◌, eqb, inl, inr, refl, sym, ap, ◌∙◌, subst, arith, All, Contains}
use Rattle.std.proofs.lemmas.Bool.{cases_eq, cases_Bool, or_parts, both_ways, and_parts, not-true}
use Rattle.std.proofs.lemmas.List.{append_assoc, append-nil, take_all}
use Rattle.std.proofs.lemmas.List.Elements.{All-head, All-tail}
use lib.Utf8.{scalar}
use Rattle.wildcard_lang.specs.declared.piece.Piece.{Piece}
use Rattle.wildcard_lang.specs.declared.piece.Piece.TheVariants.{Lit, LitFold, One, Many, OneNoColon, ManyNoColon}
use Rattle.std.specs.Char.{IsScalar}
use Rattle.wildcard_lang.specs.Matching.{takes}
use Rattle.wildcard_lang.specs.Accepts.{accepts, reaches}
use Rattle.pattern_automata.specs.declared.wants.Literal.{Literal}
use Rattle.wildcard_lang.specs.Places.{contains_place, lists_of, step_lists}
use Rattle.pattern_automata.specs.Closed.{clause_holds, clauses_hold, text_meets, InRange, names_character, names_any, is_named_character, IsFresh, IsClosed, HaveNoText, ScalarsStepAsRepresentatives, ListsMeetAsTexts}
use Rattle.pattern_automata.proofs.Scalars.{all-from_text}
use Rattle.pattern_automata.proofs.Wanting.{meets-from}
use Rattle.wildcard_lang.proofs.Laws.{has-places, rising-same, step_lists-of}

-- two characters that a piece doesn't name, neither the colon, are taken alike
takes-same : (p : Piece) (c d : ℕ) → names_character p c ≡ false → names_character p d ≡ false → eqb c 58 ≡ false → eqb d 58 ≡ false → takes p c ≡ takes p d
takes-same (Lit x) c d h k l m = h ∙ sym k
takes-same (LitFold x) c d h k l m = h ∙ sym k
takes-same One c d h k l m = refl
takes-same Many c d h k l m = refl
takes-same OneNoColon c d h k l m = ap not (l ∙ sym m)
takes-same ManyNoColon c d h k l m = ap not (l ∙ sym m)

names-at : (ps : List Piece) (c j : ℕ) → names_any ps c ≡ false → names_character (get_or ps j One) c ≡ false
names-at [] c j h = refl
names-at (p ∷ ps) c zero h = (or_parts _ _ h).0
names-at (p ∷ ps) c (suc j) h = names-at ps c j (or_parts (names_character p c) _ h).1

-- a character that the patterns don't name isn't the colon
pub colon-named : (patterns : List (List Piece)) (c : ℕ) → is_named_character patterns c ≡ false → eqb c 58 ≡ false
colon-named [] c h = h
colon-named (p ∷ ps) c h = colon-named ps c (or_parts (names_any p c) _ h).1

module _ (c d : ℕ) where
  reaches-alike : (ps : List Piece) (places : ℕ → Bool) → names_any ps c ≡ false → names_any ps d ≡ false → eqb c 58 ≡ false → eqb d 58 ≡ false →
      (j : ℕ) → reaches ps places c j ≡ reaches ps places d j
  reaches-alike ps places h k l m zero = refl
  reaches-alike ps places h k l m (suc j) =
      rw (takes-same (get_or ps j One) c d (names-at ps c j h) (names-at ps d j k) l m, reaches-alike ps places h k l m j) refl

  -- two characters that the patterns don't name lead to the same lists
  pub step_lists-alike : (patterns : List (List Piece)) (lists : List (List ℕ)) → is_named_character patterns c ≡ false → is_named_character patterns d ≡ false →
      step_lists patterns lists c ≡ step_lists patterns lists d
  step_lists-alike [] lists h k = refl
  step_lists-alike (p ∷ ps) [] h k = refl
  step_lists-alike (p ∷ ps) (l ∷ ls) h k =
      let x = or_parts (names_any p c) (is_named_character ps c) h in
      let y = or_parts (names_any p d) (is_named_character ps d) k in
      rw (rising-same _ _ 0 (length p + 1) (λ j a b. reaches-alike p (contains_place l) x.0 y.0 (colon-named ps c x.1) (colon-named ps d y.1) j), step_lists-alike ps ls x.1 y.1) refl

-- the least number that passes a test
search-below : (f : ℕ → Bool) (n : ℕ) → ((d : ℕ) → d < n → f d ≡ false) ⊎ ((m : ℕ) × (f m ≡ true) × ((d : ℕ) → d < m → f d ≡ false))
search-below f zero = inl (λ d h. absurd (omega arith))
search-below f (suc n) =
    elim (search-below f n) [
      | inr found ↦ inr found
      | inl none ↦
          elim (cases_Bool (f n)) [
            | inl e ↦ inr (n, e, none)
            | inr e ↦ inl (λ d h. elim (cases_eq d n) [ inl s ↦ rw s e | inr ne ↦ none d (omega arith) ])
          ]
    ]

least : (f : ℕ → Bool) (n : ℕ) → f n ≡ true → (m : ℕ) × (f m ≡ true) × ((d : ℕ) → d < m → f d ≡ false)
least f n e =
    elim (search-below f (suc n)) [
      | inr found ↦ found
      | inl none ↦ absurd (both_ways (f n) (none n (omega arith)) e)
    ]

-- where a scalar isn't named, some scalar is the fresh one
fresh : (patterns : List (List Piece)) (c : ℕ) → IsScalar c → is_named_character patterns c ≡ false → (r : ℕ) × IsFresh patterns r
fresh patterns c s h =
    let found = least (λ d. scalar d && not (is_named_character patterns d)) c (grind (arith, s)) in
    let parts = and_parts (scalar found.0) (not (is_named_character patterns found.0)) found.1 in (
      found.0,
      record {
        scalar = parts.0;
        new = not-true (is_named_character patterns found.0) parts.1;
        least = λ d sd l. grind (arith, sd, found.2 d l);
      },
    )

pub representative : ScalarsStepAsRepresentatives
representative patterns c s =
    elim (cases_Bool (is_named_character patterns c)) [
      | inl e ↦ (c, inl (s, e), λ lists. refl)
      | inr e ↦ let f = fresh patterns c s e in (f.0, inr f.1, λ lists. step_lists-alike c f.0 patterns lists e f.1.new)
    ]

-- whether a pattern matches, read off the lists
answer-of : (patterns : List (List Piece)) (t : List ℕ) (i : ℕ) → i < length patterns →
    contains_place (get_or (lists_of patterns t) i []) (length (get_or patterns i [])) ≡ accepts (get_or patterns i []) t
answer-of [] t i h = absurd (omega arith)
answer-of (p ∷ ps) t zero h = has-places p t (length p) (omega arith) ∙ rw (take_all (length p) p (omega arith)) refl
answer-of (p ∷ ps) t (suc i) h = answer-of ps t i (omega arith)

clause_holds-same : (f g : ℕ → Bool) (n : ℕ) → ((i : ℕ) → i < n → f i ≡ g i) → (ls : List Literal) → All (λ (l : Literal). l.pattern < n) ls → clause_holds f ls ≡ clause_holds g ls
clause_holds-same f g n h [] a = refl
clause_holds-same f g n h (l ∷ ls) a =
    rw (h l.pattern (All-head (λ (x : Literal). x.pattern < n) l ls a), clause_holds-same f g n h ls (All-tail (λ (x : Literal). x.pattern < n) l ls a)) refl

pub clauses_hold-same : (f g : ℕ → Bool) (n : ℕ) → ((i : ℕ) → i < n → f i ≡ g i) → (ks : List (List Literal)) → InRange n ks → clauses_hold f ks ≡ clauses_hold g ks
clauses_hold-same f g n h [] a = refl
clauses_hold-same f g n h (k ∷ ks) a =
    rw (clause_holds-same f g n h k (All-head (All (λ (x : Literal). x.pattern < n)) k ks a), clauses_hold-same f g n h ks (All-tail (All (λ (x : Literal). x.pattern < n)) k ks a)) refl

pub meets-of : ListsMeetAsTexts
meets-of patterns clauses t h = clauses_hold-same _ _ (length patterns) (answer-of patterns t) clauses h

module _ (patterns : List (List Piece)) (clauses : List (List Literal)) (set : List (List (List ℕ))) (closed : IsClosed patterns clauses set) where
  stays-after : (u t : List ℕ) → Contains set (lists_of patterns u) → All IsScalar t → Contains set (lists_of patterns (u ++ t))
  stays-after u [] at s = rw (append-nil u) at
  stays-after u (c ∷ t) at s =
      let r = representative patterns c (All-head IsScalar c t s) in
      let next : Contains set (lists_of patterns (u ++ c ∷ [])) =
      let from : Contains set (step_lists patterns (lists_of patterns u) r.0) = closed.steps _ r.0 at r.1 in
      subst (λ (x : List (List ℕ)). Contains set x) (sym (r.2 (lists_of patterns u)) ∙ step_lists-of patterns u c) from in
      let more = stays-after (u ++ c ∷ []) t next (All-tail IsScalar c t s) in
      subst (λ (x : List ℕ). Contains set (lists_of patterns x)) (append_assoc u (c ∷ []) t) more

  pub no_text : InRange (length patterns) clauses → HaveNoText patterns clauses
  no_text range t s m =
      both_ways (text_meets patterns clauses t) (sym (meets-of patterns clauses t range) ∙ closed.none_meets _ (stays-after [] t closed.starts (all-from_text t s))) (meets-from patterns t clauses m)

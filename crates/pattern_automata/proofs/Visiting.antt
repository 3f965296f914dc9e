-- What a turn of the search keeps.
use Rattle.std.proofs.Common.{◌≡◌, ℕ, zero, suc, ◌+◌, ◌-◌, ◌<◌, ◌≤◌, List, [], ◌∷◌, ◌++◌, length, get_or, Bool, true, false, Contains, refl, sym, ap, ◌∙◌, subst, inl, inr, arith, eqb}
use Rattle.std.proofs.lemmas.Bool.{cases_lt, or_cases, eqb-true, MatchBool-at_true, MatchBool-at_false}
use Rattle.std.proofs.lemmas.List.{length-append, length_push, append-nil, get_or_append_left, get_or-append_right, get_or_push}
use Rattle.std.proofs.lemmas.List.Folds.{list_any-append}
use Rattle.std.proofs.lemmas.List.Elements.{Contains-append_left, Contains-get_or}
use Rattle.wildcard_lang.specs.declared.piece.Piece.{Piece}
use Rattle.pattern_automata.specs.declared.wants.Literal.{Literal}
use Rattle.pattern_automata.specs.declared.tree.Parent.{Parent}
use Rattle.wildcard_lang.specs.Places.{contains_place}
use Rattle.pattern_automata.specs.Marks.{mark_count}
use Rattle.pattern_automata.specs.Packed.{words_for}
use Rattle.pattern_automata.specs.Tree.{LeadsTo, IsLed, AreDifferent, IsSearch, IsTurn, IsBase, IsFull, IsMet, IsVisited, IsLeftOpen, words_meet}
use Rattle.pattern_automata.proofs.Packing.{length-all_words}
use Rattle.pattern_automata.proofs.Searching.{text}

module _ (patterns : List (List Piece)) (old found more : List (List ℕ)) (is : found ≡ old ++ more) where
  kept : (j : ℕ) → j < length old → get_or found j [] ≡ get_or old j []
  kept j h = ap (λ x. get_or x j []) is ∙ get_or_append_left old more [] j h

  led-kept : (j c : ℕ) → j < length old → IsLed patterns old j c → IsLed patterns found j c
  led-kept j c h led = (led.0, rw is (Contains-append_left old more led.0 led.1), λ t e. led.2 t (sym (kept j h) ∙ e))

  module _ (ends : List ℕ) (clauses : List (List Literal)) (i c : ℕ) (marks : List ℕ) (within : i < length old)
      (none : (j : ℕ) → j < length more → words_meet ends clauses (get_or more j []) ≡ false)
      (there : Contains found marks) (leads : LeadsTo patterns (get_or old i []) c marks) where
    none-kept : ((j : ℕ) → j < length old → words_meet ends clauses (get_or old j []) ≡ false) → (j : ℕ) → j < length found → words_meet ends clauses (get_or found j []) ≡ false
    none-kept before j h =
        elim (cases_lt j (length old)) [
          | inl s ↦ rw (kept j s) (before j s)
          | inr g ↦
              let e : get_or found j [] ≡ get_or more (j - length old) [] = ap (λ x. get_or x j []) is ∙ get_or-append_right old more (length old) j [] refl g in
              rw e (none (j - length old) (omega (arith, ap length is, length-append old more)))
        ]

    now-kept : (here : List ℕ) → ((d : ℕ) → contains_place here d ≡ true → IsLed patterns old i d) → (d : ℕ) → contains_place (here ++ c ∷ []) d ≡ true → IsLed patterns found i d
    now-kept here before d h =
        elim (or_cases (contains_place here d) _ (sym (list_any-append (λ x. eqb x d) here (c ∷ [])) ∙ h)) [
          | inl a ↦ led-kept i d within (before d a)
          | inr b ↦
              elim (or_cases (eqb c d) false b) [
                | inl e ↦ let same : c ≡ d = eqb-true c d e in rw (← same) (marks, there, λ t f. leads t (sym (kept i within) ∙ f))
                | inr f ↦ absurd (cc)
              ]
        ]

    search-more : (characters here : List ℕ) → IsSearch patterns ends clauses characters old i here → IsSearch patterns ends clauses characters found i (here ++ c ∷ [])
    search-more characters here before = record {
      none = none-kept before.none;
      done = λ j d h m. led-kept j d (omega arith) (before.done j d h m);
      now = now-kept here before.now;
    }

different-push : (old found : List (List ℕ)) (marks : List ℕ) → found ≡ old ++ marks ∷ [] → (Contains old marks → ⊥) → AreDifferent old → AreDifferent found
different-push old found marks is absent before j k l h same =
    let below : get_or found j [] ≡ get_or old j [] = ap (λ x. get_or x j []) is ∙ get_or_append_left old (marks ∷ []) [] j (omega (arith, ap length is, length_push old marks)) in
    elim (cases_lt k (length old)) [
      | inl s ↦
          let at : get_or found k [] ≡ get_or old k [] = ap (λ x. get_or x k []) is ∙ get_or_append_left old (marks ∷ []) [] k s in
          before j k l s (sym below ∙ (same ∙ at))
      | inr g ↦
          let n : length old ≡ k = omega (arith, ap length is, length_push old marks) in
          let at : get_or found k [] ≡ marks = ap (λ x. get_or x k []) is ∙ get_or_push old marks [] k n in
          absent (subst (λ (x : List ℕ). Contains old x) (sym below ∙ (same ∙ at)) (Contains-get_or old j [] (omega arith)))
    ]

module _ (patterns : List (List Piece)) (ends : List ℕ) (clauses : List (List Literal)) (old found : List (List ℕ)) (before parents : List Parent)
    (i c limit : ℕ) (marks : List ℕ) (new : Bool) (base : IsBase patterns ends clauses old before limit) (within : i < length old)
    (turn : IsTurn patterns old found parents marks i c new) where
  pub words-size : (view : List ℕ) → view ≡ marks → length view ≡ words_for (mark_count patterns)
  words-size view is =
      let t = text patterns old before base.tree i within in
      ap length (is ∙ turn.leads t.text t.is) ∙ length-all_words patterns (t.text ++ c ∷ [])

  pub visited-same : new ≡ false → IsVisited patterns ends clauses old found parents i c limit
  visited-same e =
      let same : found ≡ old = MatchBool-at_false _ _ e turn.grows in
      record {
        base = record {
          tree = turn.tree;
          different = subst (λ (x : List (List ℕ)). AreDifferent x) (sym same) base.different;
          count = omega (arith, ap length same, base.count);
          range = base.range;
          within = base.within;
        };
        within = omega (arith, ap length same);
        goes = search-more patterns old found [] (same ∙ sym (append-nil old)) ends clauses i c marks within (λ j h. absurd (omega arith)) turn.there turn.leads;
      }

  pub full : new ≡ true → limit < length found → IsFull patterns found parents limit
  full e h =
      let grows = MatchBool-at_true _ _ e turn.grows in
      record {
        tree = turn.tree;
        different = different-push old found marks grows.0 grows.1 base.different;
        count = omega (arith, ap length grows.0, length_push old marks, base.count);
      }

  pub met : new ≡ true → words_meet ends clauses marks ≡ true → IsMet patterns ends clauses found parents
  met e holds =
      let grows = MatchBool-at_true _ _ e turn.grows in
      let size : length old ≡ length found - 1 = omega (arith, ap length grows.0, length_push old marks) in
      let last : get_or found (length found - 1) [] ≡ marks = ap (λ x. get_or x (length found - 1) []) grows.0 ∙ get_or_push old marks [] (length found - 1) size in
      record { tree = turn.tree; meets = rw last holds }

  none-of-one : words_meet ends clauses marks ≡ false → (j : ℕ) → j < length (marks ∷ []) → words_meet ends clauses (get_or (marks ∷ []) j []) ≡ false
  none-of-one f zero h = f
  none-of-one f (suc j) h = absurd (omega arith)

  pub visited-new : new ≡ true → words_meet ends clauses marks ≡ false → length found ≤ limit → IsVisited patterns ends clauses old found parents i c limit
  visited-new e none count =
      let grows = MatchBool-at_true _ _ e turn.grows in
      record {
        base = record {
          tree = turn.tree;
          different = different-push old found marks grows.0 grows.1 base.different;
          count = count;
          range = base.range;
          within = base.within;
        };
        within = omega (arith, ap length grows.0, length_push old marks);
        goes = search-more patterns old found (marks ∷ []) grows.0 ends clauses i c marks within (none-of-one none) turn.there turn.leads;
      }

-- the next state
pub left : (patterns : List (List Piece)) (ends : List ℕ) (clauses : List (List Literal)) (characters here : List ℕ) (found : List (List ℕ)) (parents : List Parent) (i limit : ℕ) →
    here ≡ characters → IsBase patterns ends clauses found parents limit → IsSearch patterns ends clauses characters found i here →
    IsLeftOpen patterns ends clauses characters found parents (i + 1) limit
left patterns ends clauses characters here found parents i limit all base search = record {
  base = base;
  search = record {
    none = search.none;
    done = λ j d l m.
        elim (cases_lt j i) [
          | inl s ↦ search.done j d s m
          | inr g ↦ let e : j ≡ i = omega arith in rw e (search.now d (rw all m))
        ];
    now = λ d m. absurd (cc);
  };
}

-- The values of a path, and those of the path with one more answer.
use Rattle.std.proofs.Common.{◌≡◌, ◌≢◌, ◌<◌, ◌++◌, ◌∷◌, [], ℕ, List, length, get_or, set, slice_get, take, Bool, true, false, IsTrue, ◌↔◌, MatchBool, Option, Some, None, IsSome, All, AllPairs, Any, ◌⊎◌, refl, sym, ap, ◌∙◌, subst, inl, inr, arith}
use Rattle.std.specs.Bool.{beq}
use Rattle.std.specs.Prelude.{option_to_list}
use Rattle.std.proofs.lemmas.Bool.{both_ways, cases_Bool, cases_order}
use Rattle.std.proofs.lemmas.List.{take_at, length-set, length_push, get_or-set_same, get_or-set_other, get_or_append_left, get_or_push, get_or_default, set-get_or, set-set}
use Rattle.std.proofs.lemmas.Option.{slice_get-get_or}
use Rattle.std.proofs.lemmas.List.Elements.{All-push, Contains-append_left}
use Rattle.formula_tree.specs.Answers.{Answers, answer_of}
use Rattle.formula_tree.specs.Runs.{path_with}
use Rattle.formula_tree.proofs.Laws.{answer_of-besides, answer_of-last, cases_eq}
use Rattle.policy_model.specs.declared.schema.Schema.{Schema}
use Rattle.policy_model.specs.declared.test.Slot.{Slot}
use Rattle.policy_model.specs.declared.test.Test.{Test}
use Rattle.policy_model.proofs.Laws.{slice_get-at}
use Rattle.request_build.specs.Built.{AreSlotValues}
use Rattle.slot_theory.specs.declared.outcome.SlotValue.{SlotValue}
use Rattle.slot_theory.specs.Slots.{AnswersTest, IsSlotValue, ValueMeets, is_on, slot_of, test_at}
use Rattle.slot_theory.specs.Cores.{HasTest}
use Rattle.slot_theory.proofs.Laws.{at-test, on-slot, slot-on}
use Rattle.policy_compile.specs.declared.outcome.Query.{Query}
use Rattle.slot_theory.specs.Possible.{PathInRange}
use Rattle.refute_check.proofs.Laws.{range_more}
use Rattle.tree_search.specs.Search.{AreCarried, IsLonger, with_value}
use Rattle.tree_search.specs.Values.{IsHeldAt, IsIndexOf}

abbrev Pair : Type 0
Pair = Slot × SlotValue

abbrev Differ : Pair → Pair → Type 0
Differ p q = p.0 ≢ q.0

abbrev IsOn : Slot → Pair → Type 0
IsOn s p = p.0 ≡ s

-- the index at which a value of the slot was read
pub held : (values : List Pair) (i : ℕ) (s : Slot) (p : Pair) → i < length values → p ≡ get_or values i p → p.0 ≡ s → IsHeldAt s values i
held values i s p within read on =
    let there : slice_get values i ≡ Some (get_or values i p) = slice_get-get_or values i p within in
    record { value = p.1; there = there ∙ ap Some (sym read) ∙ ap (λ (t : Slot). Some (t, p.1)) on }

-- ---- lists no two of whose values are of one slot

-- one more value, of another slot than all before
once-push : (values : List Pair) (p : Pair) → AllPairs Differ values → All (λ (q : Pair). q.0 ≢ p.0) values → AllPairs Differ (values ++ p ∷ [])
once-push values p once others i j d low within =
    let long = length_push values p in
    let first : get_or (values ++ p ∷ []) i d ≡ get_or values i d = get_or_append_left values (p ∷ []) d i (omega arith) in
    elim (cases_eq j (length values)) [
      | inl last ↦
          let second : get_or (values ++ p ∷ []) j d ≡ p = get_or_push values p d j (sym last) in
          λ e. others i d (omega arith) (ap (λ (q : Pair). q.0) (sym first) ∙ e ∙ ap (λ (q : Pair). q.0) second)
      | inr before ↦
          let inside : j < length values = omega arith in
          let second : get_or (values ++ p ∷ []) j d ≡ get_or values j d = get_or_append_left values (p ∷ []) d j inside in
          λ e. once i j d low inside (ap (λ (q : Pair). q.0) (sym first) ∙ e ∙ ap (λ (q : Pair). q.0) second)
    ]

module _ (values : List Pair) (i : ℕ) (s : Slot) (old v : SlotValue) (there : slice_get values i ≡ Some (s, old)) where
  abbrev changed : List Pair
  changed = set values i (s, v)

  pub here : i < length values
  here = (slice_get-at values i (s, old) (s, old) there).0

  same-slot : (k : ℕ) (d : Pair) → (get_or changed k d).0 ≡ (get_or values k d).0
  same-slot k d =
      elim (cases_eq k i) [
        | inl same ↦
            let now : get_or changed k d ≡ (s, v) = ap (λ n. get_or changed n d) same ∙ get_or-set_same values i (s, v) d here in
            let before : get_or values k d ≡ (s, old) = ap (λ n. get_or values n d) same ∙ (slice_get-at values i (s, old) d there).1 in
            ap (λ (q : Pair). q.0) now ∙ ap (λ (q : Pair). q.0) (sym before)
        | inr other ↦ ap (λ (q : Pair). q.0) (get_or-set_other values i k (s, v) d other)
      ]

  once-set : AllPairs Differ values → AllPairs Differ changed
  once-set once k j d low within =
      let long = length-set values i (s, v) in
      λ e. once k j d low (omega arith) (sym (same-slot k d) ∙ e ∙ same-slot j d)

  -- the values elsewhere are of other slots
  apart : AllPairs Differ values → (k : ℕ) (d : Pair) → k < length values → k ≢ i → (get_or values k d).0 ≢ s
  apart once k d within other e =
      let at : (get_or values i d).0 ≡ s = ap (λ (q : Pair). q.0) (slice_get-at values i (s, old) d there).1 in
      elim (cases_order k i) [
        | inl same ↦ absurd (other same)
        | inr (inl low) ↦ once k i d low here (e ∙ sym at)
        | inr (inr high) ↦ once i k d high within (at ∙ sym e)
      ]

  there-set : (t : Slot) → Any (IsOn t) values → Any (IsOn t) changed
  there-set t (k, p, within, at, on) =
      let long = length-set values i (s, v) in
      let q = get_or changed k p in
      let slot : q.0 ≡ t = same-slot k p ∙ ap (λ (x : Pair). x.0) at ∙ on in
      let inside : k < length changed = omega arith in
      (k, q, inside, get_or_default changed k q p inside, slot)

-- a value that was taken out is put back
pub put-back : (values : List Pair) (i : ℕ) (v before : Pair) → slice_get values i ≡ Some before → set (set values i v) i before ≡ values
put-back values i v before there =
    set-set values i v before ∙ ap (set values i) (sym (slice_get-at values i before before there).1) ∙ set-get_or values i before

-- what is left where a value that was put at the end is taken away
push-same : (xs ys : List Pair) (v w : Pair) → xs ++ v ∷ [] ≡ ys ++ w ∷ [] → ys ≡ xs
push-same xs ys v w e =
    let first = length_push xs v in
    let second = length_push ys w in
    let all : length (xs ++ v ∷ []) ≡ length (ys ++ w ∷ []) = ap (λ (l : List Pair). length l) e in
    let same : length xs ≡ length ys = omega arith in
    sym (take_at ys (w ∷ []) (length xs) (sym same)) ∙ ap (λ (l : List Pair). take (length xs) l) (sym e) ∙ take_at xs (v ∷ []) (length xs) refl

nothing-there : (r : Option Pair) → r ≡ None → IsSome r → ⊥
nothing-there None e h = absurd (cc)
nothing-there (Some p) e h = absurd (cc)

pub popped : (xs : List Pair) (v : Pair) (old ys : List Pair) (r : Option Pair) → old ≡ xs ++ v ∷ [] → old ≡ ys ++ option_to_list r → (0 < length old → IsSome r) → ys ≡ xs
popped xs v old ys (Some w) e last some = push-same xs ys v w (sym e ∙ last)
popped xs v old ys None e last some =
    let one = length_push xs v in
    let all : length old ≡ length (xs ++ v ∷ []) = ap (λ (l : List Pair). length l) e in
    absurd (nothing-there None refl (some (omega arith)))

-- ---- one more answer

some-some : (b c : Bool) → Some b ≡ Some c → b ≡ c
some-some b c e = cc

none-not : (o : Option Bool) → o ≡ None → IsSome o → ⊥
none-not None e h = absurd (cc)
none-not (Some b) e h = absurd (cc)

slot-cases : (s : Slot) (t : Test) → (slot_of t ≡ s) ⊎ (slot_of t ≢ s)
slot-cases s t =
    elim (cases_Bool (is_on s t)) [
      | inl e ↦ inl (on-slot s t e)
      | inr e ↦ inr (λ same. both_ways (is_on s t) e (slot-on s t same))
    ]

module _ (schema : Schema) (tests : List Test) (path : Answers) (n : ℕ) (b : Bool) (new : answer_of path n ≡ None) where
  abbrev more : Answers
  more = path_with path n b

  abbrev own : Test
  own = test_at tests n

  last : answer_of more n ≡ Some b
  last = answer_of-last path n b new

  asked-more : (s : Slot) → HasTest tests path s → HasTest tests more s
  asked-more s h =
      let ne : h.number ≢ n = λ e. none-not (answer_of path n) new (subst (λ (k : ℕ). IsSome (answer_of path k)) e h.is.answered) in
      record { number = h.number; is = record { answered = subst (λ (o : Option Bool). IsSome o) (sym (answer_of-besides path n b h.number ne)) h.is.answered; on_slot = h.is.on_slot } }

  asked-less : (s : Slot) → slot_of own ≢ s → HasTest tests more s → HasTest tests path s
  asked-less s off h =
      let ne : h.number ≢ n = λ e. off (subst (λ (k : ℕ). slot_of (test_at tests k) ≡ s) e h.is.on_slot) in
      record { number = h.number; is = record { answered = subst (λ (o : Option Bool). IsSome o) (answer_of-besides path n b h.number ne) h.is.answered; on_slot = h.is.on_slot } }

  pub asked-now : HasTest tests more (slot_of own)
  asked-now = record { number = n; is = record { answered = subst (λ (o : Option Bool). IsSome o) (sym last) refl; on_slot = refl } }

  -- what the value of another slot answers stays
  other-value : (s : Slot) (v : SlotValue) → s ≢ slot_of own → IsSlotValue schema tests path s v → IsSlotValue schema tests more s v
  other-value s v off is = (
    is.0,
    λ m c t h at on.
        let ne : m ≢ n = λ e. off (sym on ∙ sym (ap slot_of (at-test tests n t (subst (λ (k : ℕ). slice_get tests k ≡ Some t) e at)))) in
        is.1 m c t (sym (answer_of-besides path n b m ne) ∙ h) at on,
  )

  -- a value that answers the new test too
  own-value : (s : Slot) (v : SlotValue) → AnswersTest v own b → IsSlotValue schema tests path s v → IsSlotValue schema tests more s v
  own-value s v here is = (
    is.0,
    λ m c t h at on.
        elim (cases_eq m n) [
          | inl e ↦
              let there : slice_get tests n ≡ Some t = subst (λ (k : ℕ). slice_get tests k ≡ Some t) e at in
              let same : own ≡ t = at-test tests n t there in
              let now : answer_of more n ≡ Some c = subst (λ (k : ℕ). answer_of more k ≡ Some c) e h in
              let value : b ≡ c = some-some b c (sym last ∙ now) in
              subst (λ (x : Test). AnswersTest v x c) same (subst (λ (x : Bool). AnswersTest v own x) value here)
          | inr ne ↦ is.1 m c t (sym (answer_of-besides path n b m ne) ∙ h) at on
        ],
  )

  module _ (values : List Pair) (are : AreSlotValues schema tests path values) where
    abbrev Here : Pair → Type 0
    Here p = IsSlotValue schema tests more p.0 p.1

    abbrev Asked : Pair → Type 0
    Asked p = HasTest tests more p.0

    -- one more value, of the new test's slot
    pub added-values : (v : SlotValue) → All (λ (p : Pair). p.0 ≢ slot_of own) values → IsSlotValue schema tests more (slot_of own) v → AreSlotValues schema tests more (values ++ (slot_of own, v) ∷ [])
    added-values v none is = record {
      each = All-push Here values (slot_of own, v) (λ k d within. other-value (get_or values k d).0 (get_or values k d).1 (none k d within) (are.each k d within)) is;
      needed = All-push Asked values (slot_of own, v) (λ k d within. asked-more (get_or values k d).0 (are.needed k d within)) asked-now;
      there = λ s asked. elim (slot-cases s own) [
        | inl e ↦ let long = length_push values (slot_of own, v) in (length values, (slot_of own, v), omega arith, get_or_push values (slot_of own, v) (slot_of own, v) (length values) refl, e)
        | inr off ↦ let (k, p, within, at, on) = are.there s (asked-less s off asked) in let among = Contains-append_left values ((slot_of own, v) ∷ []) p (k, within, at) in (among.0, p, among.1, among.2, on)
      ];
      once = once-push values (slot_of own, v) are.once none;
    }

    -- a new value in place of that of the new test's slot
    pub changed-values : (i : ℕ) (old v : SlotValue) → slice_get values i ≡ Some (slot_of own, old) → IsSlotValue schema tests more (slot_of own) v → AreSlotValues schema tests more (set values i (slot_of own, v))
    changed-values i old v there is = record {
      each = λ k d within.
          let long = length-set values i (slot_of own, v) in
          let inside : k < length values = omega arith in
          elim (cases_eq k i) [
            | inl same ↦ subst Here (sym (ap (λ j. get_or (set values i (slot_of own, v)) j d) same ∙ get_or-set_same values i (slot_of own, v) d (here values i (slot_of own) old v there))) is
            | inr other ↦ subst Here (sym (get_or-set_other values i k (slot_of own, v) d other))
                (other-value (get_or values k d).0 (get_or values k d).1 (apart values i (slot_of own) old v there are.once k d inside other) (are.each k d inside))
          ];
      needed = λ k d within.
          let long = length-set values i (slot_of own, v) in
          subst (λ (s : Slot). HasTest tests more s) (sym (same-slot values i (slot_of own) old v there k d)) (asked-more (get_or values k d).0 (are.needed k d (omega arith)));
      there = λ s asked. there-set values i (slot_of own) old v there s (elim (slot-cases s own) [
        | inl e ↦ let at = slice_get-at values i (slot_of own, old) (slot_of own, old) there in (i, (slot_of own, old), at.0, at.1, e)
        | inr off ↦ are.there s (asked-less s off asked)
      ]);
      once = once-set values i (slot_of own) old v there are.once;
    }

    -- the same values, of which that of the new test's slot answers the test
    pub kept-values : (i : ℕ) (v : SlotValue) → slice_get values i ≡ Some (slot_of own, v) → AnswersTest v own b → AreSlotValues schema tests more values
    kept-values i v there answers =
        let at = slice_get-at values i (slot_of own, v) (slot_of own, v) there in
        let is : IsSlotValue schema tests path (slot_of own) v = subst (λ (p : Pair). IsSlotValue schema tests path p.0 p.1) at.1 (are.each i (slot_of own, v) at.0) in
        let same : set values i (slot_of own, v) ≡ values = ap (λ (p : Pair). set values i p) (sym at.1) ∙ set-get_or values i (slot_of own, v) in
        subst (λ (vs : List Pair). AreSlotValues schema tests more vs) same (changed-values i v v there (own-value (slot_of own) v answers is))

-- ---- the steps of a search

says-so : (met answer : Bool) (A : Type 0) → IsTrue met ↔ A → beq met answer ≡ true → MatchBool answer A (¬ A)
says-so true true A says e = says.0 refl
says-so true false A says e = absurd (cc)
says-so false true A says e = absurd (cc)
says-so false false A says e = λ a. let yes = says.1 a in absurd (cc)

module _ (schema : Schema) (query : Query) (path : Answers) (values : List Pair) (test : ℕ) (answer : Bool) (l : IsLonger schema query path values test answer) where
  abbrev tests : List Test
  tests = query.tests

  pub longer-range : PathInRange tests path
  longer-range = rw l.is (range_more tests l.before test answer l.carried.range l.within)

  pub longer-asked : (s : Slot) → s ≡ slot_of (test_at tests test) → HasTest tests path s
  longer-asked s on = rw (on, l.is) (asked-now schema tests l.before test answer l.new)

  -- the slot's value answers the test, so the values stay
  pub longer-kept : (t : Test) (s : Slot) (i : ℕ) (p : Pair) (met : Bool) → t ≡ test_at tests test → s ≡ slot_of t → IsHeldAt s values i → p ≡ get_or values i p → IsTrue met ↔ ValueMeets p.1 t → beq met answer ≡ true → AreCarried schema query path values
  longer-kept t s i p met own on h read says same =
      let slot : s ≡ slot_of (test_at tests test) = on ∙ ap slot_of own in
      let there : slice_get values i ≡ Some (slot_of (test_at tests test), h.value) = subst (λ (x : Slot). slice_get values i ≡ Some (x, h.value)) slot h.there in
      let second : p.1 ≡ h.value = ap (λ (q : Pair). q.1) (read ∙ (slice_get-at values i (s, h.value) p h.there).1) in
      let answers : AnswersTest h.value (test_at tests test) answer = subst (λ (v : SlotValue). AnswersTest v (test_at tests test) answer) second (subst (λ (x : Test). AnswersTest p.1 x answer) own (says-so met answer (ValueMeets p.1 t) says same)) in
      record {
        range = longer-range;
        each = rw l.is (kept-values schema tests l.before test answer l.new values l.carried.each i h.value there answers);
      }

  -- a new value of the slot is one more, or stands in place of the old
  pub longer-with : (s : Slot) (v : SlotValue) (index : Option ℕ) → s ≡ slot_of (test_at tests test) → IsIndexOf s values index → IsSlotValue schema tests path s v → AreCarried schema query path (with_value values (s, v) index)
  longer-with s v None on none is = record {
    range = longer-range;
    each = rw (on, l.is) (added-values schema tests l.before test answer l.new values l.carried.each v (rw on at none) (rw (on, l.is) at is));
  }
  longer-with s v (Some i) on h is = record {
    range = longer-range;
    each =
        let there : slice_get values i ≡ Some (slot_of (test_at tests test), h.value) = subst (λ (x : Slot). slice_get values i ≡ Some (x, h.value)) on h.there in
        rw (on, l.is) (changed-values schema tests l.before test answer l.new values l.carried.each i h.value v there (rw (on, l.is) at is));
  }

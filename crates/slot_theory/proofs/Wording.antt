-- The answered tests of a slot, and the values that answer them.
use Rattle.std.proofs.Common.{◌≡◌, ◌≢◌, ℕ, zero, suc, ◌+◌, ◌<◌, ◌≤◌, ◌-◌, List, [], ◌∷◌, length, get_or, slice_get, Bool, true, false, Option, Some, None, unwrap_or, IsSome, nat_eq, refl, sym, ap, ◌∙◌, subst, arith, inl, inr}
use Rattle.std.proofs.lemmas.Bool.{both_ways, cases_Bool, cases_lt}
use Rattle.std.proofs.lemmas.List.{get_or_default}
use Rattle.std.proofs.lemmas.Bool.Decides.{nat_tests}
use Rattle.std.specs.Prelude.{◌↔◌, IsTrue, MatchBool, MatchOption, not}
use Rattle.std.specs.Bool.{beq}
use Rattle.std.specs.Str.{bytes_eq}
use Rattle.std.proofs.lemmas.Slice.Eq.{bytes_eq-Decides}
use Rattle.formula_tree.specs.Answers.{Answers, answer_of, IsDistinct}
use Rattle.policy_model.specs.declared.test.Slot.{Slot}
use Rattle.policy_model.specs.declared.test.Slot.TheVariants as slot
use Rattle.policy_model.specs.declared.test.Test.{Test}
use Rattle.policy_model.specs.declared.test.Test.TheVariants.{Principal, Action, Resource, Present, SomeMeets, SomeMeetsNone}
use Rattle.policy_model.specs.declared.schema.KeyRule.{KeyRule}
use Rattle.policy_model.specs.declared.schema.Schema.{Schema}
use Rattle.policy_model.specs.Soundness.{TestSuits}
use Rattle.slot_theory.specs.declared.outcome.SlotValue.{SlotValue}
use Rattle.slot_theory.specs.Slots.{SlotIsIn, AnswersSlot, ValueMeets, is_on, slot_of, test_at, AnswersTest}
use Rattle.slot_theory.specs.Possible.{PathInRange}
use Rattle.slot_theory.specs.Cores.{HasTest, IsAnsweredOn}
use Rattle.slot_theory.specs.Steps.{IsOtherwise, IsWrong}

-- ---- answers by their places

-- the pair at a place of a list where no test stands twice is the answer to its test
pub answer-at : (ps : Answers) (i : ℕ) (d : ℕ × Bool) → IsDistinct ps → i < length ps → answer_of ps (get_or ps i d).0 ≡ Some (get_or ps i d).1
answer-at [] i d h l = absurd (omega arith)
answer-at (p ∷ ps) zero d h l = grind (arith, nat_tests)
answer-at (p ∷ ps) (suc i) d h l =
    let rest : answer_of ps (get_or ps i d).0 ≡ Some (get_or ps i d).1 = answer-at ps i d h.1 (omega arith) in
    let none : answer_of ps p.0 ≡ None = h.0 in
    elim (cases_Bool (nat_eq p.0 (get_or ps i d).0)) [
      | inl e ↦ let same : p.0 ≡ (get_or ps i d).0 = grind (arith, nat_tests, e) in absurd (cc)
      | inr e ↦ rw e rest
    ]

-- an answer stands at some place
pub answer-place : (ps : Answers) (n : ℕ) (b : Bool) → answer_of ps n ≡ Some b → (i : ℕ) × (i < length ps) × (get_or ps i (n, b) ≡ (n, b))
answer-place [] n b h = absurd (cc)
answer-place (p ∷ ps) n b h =
    elim (cases_Bool (nat_eq p.0 n)) [
      | inl e ↦
          let same : p.0 ≡ n = grind (arith, nat_tests, e) in
          let value : Some p.1 ≡ Some b = rw e at h in
          let second : p.1 ≡ b = cc in
          (zero, omega arith, rw (← same, ← second) refl)
      | inr e ↦
          let rest : answer_of ps n ≡ Some b = rw e at h in
          let w = answer-place ps n b rest in
          (suc w.0, omega (arith, w.1), w.2)
    ]

pub range-at : (tests : List Test) (ps : Answers) (i : ℕ) (d : ℕ × Bool) → PathInRange tests ps → IsDistinct ps → i < length ps → (get_or ps i d).0 < length tests
range-at tests ps i d range h l = range _ _ (answer-at ps i d h l)

some-answer : (o : Option Bool) → IsSome o → (b : Bool) × (o ≡ Some b)
some-answer None h = absurd (cc)
some-answer (Some b) h = (b, refl)

pub on-within : (tests : List Test) (path : Answers) (s : Slot) (n : ℕ) → PathInRange tests path → IsAnsweredOn tests path s n → n < length tests
on-within tests path s n range on = let w = some-answer (answer_of path n) on.answered in range n w.0 w.1

-- ---- the slot of a test

key-slot : (name key : List ℕ) → bytes_eq name key ≡ true → slot.Key key ≡ slot.Key name
key-slot name key e = ap (λ (k : List ℕ). slot.Key k) (sym ((bytes_eq-Decides name key).0 e))

pub on-slot : (s : Slot) (t : Test) → is_on s t ≡ true → slot_of t ≡ s
on-slot slot.Principal (Principal entry) e = refl
on-slot slot.Action (Action pattern) e = refl
on-slot slot.Resource (Resource pattern) e = refl
on-slot (slot.Key name) (Present key) e = key-slot name key e
on-slot (slot.Key name) (SomeMeets key c) e = key-slot name key e
on-slot (slot.Key name) (SomeMeetsNone key cs) e = key-slot name key e
on-slot s t e = absurd (cc)

is_on-own : (t : Test) → is_on (slot_of t) t ≡ true
is_on-own (Principal entry) = refl
is_on-own (Action pattern) = refl
is_on-own (Resource pattern) = refl
is_on-own (Present key) = (bytes_eq-Decides key key).1 refl
is_on-own (SomeMeets key c) = (bytes_eq-Decides key key).1 refl
is_on-own (SomeMeetsNone key cs) = (bytes_eq-Decides key key).1 refl

pub slot-on : (s : Slot) (t : Test) → slot_of t ≡ s → is_on s t ≡ true
slot-on s t e = rw (← e) (is_on-own t)

not-on : (s : Slot) (t : Test) → is_on s t ≡ false → slot_of t ≢ s
not-on s t e same = both_ways (is_on s t) e (slot-on s t same)

some-rule : (o : Option KeyRule) (P : KeyRule → Type 0) → MatchOption o ⊥ P → IsSome o
some-rule None P h = absurd h
some-rule (Some rule) P h = refl

-- the key of a test that suits the schema is one of the schema's
pub slot-in : (schema : Schema) (t : Test) → TestSuits schema t → SlotIsIn schema (slot_of t)
slot-in schema (Principal entry) suits = tt
slot-in schema (Action pattern) suits = tt
slot-in schema (Resource pattern) suits = tt
slot-in schema (Present key) suits = some-rule _ _ suits
slot-in schema (SomeMeets key c) suits = some-rule _ _ suits
slot-in schema (SomeMeetsNone key cs) suits = some-rule _ _ suits

-- ---- a value that is tried

-- a test on the slot is answered otherwise where the value's answer differs
pub other-by : (s : Slot) (v : SlotValue) (t : Test) (meets holds : Bool) → is_on s t ≡ true → IsTrue meets ↔ ValueMeets v t → MatchBool (not (beq meets holds)) (IsOtherwise s v t holds) (slot_of t ≡ s → AnswersTest v t holds)
other-by s v t true true on says = λ same. says.0 refl
other-by s v t true false on says = (on-slot s t on, λ no. no (says.0 refl))
other-by s v t false true on says = (on-slot s t on, λ yes. let said : IsTrue false = says.1 yes in absurd (cc))
other-by s v t false false on says = λ same yes. let said : IsTrue false = says.1 yes in absurd (cc)

pub wrong-at : (tests : List Test) (ps : Answers) (s : Slot) (v : SlotValue) (i : ℕ) (d : ℕ × Bool) → IsDistinct ps → i < length ps → IsOtherwise s v (test_at tests (get_or ps i d).0) (get_or ps i d).1 → IsWrong tests ps s v (get_or ps i d).0
wrong-at tests ps s v i d h l o =
    let n = (get_or ps i d).0 in
    let b = (get_or ps i d).1 in
    let e : answer_of ps n ≡ Some b = answer-at ps i d h l in
    record {
      on = record { answered = rw e refl; on_slot = o.0 };
      wrong = λ right. o.1 (subst (λ (x : Option Bool). AnswersTest v (test_at tests n) (unwrap_or x false)) e right);
    }

pub at-test : (tests : List Test) (n : ℕ) (t : Test) → slice_get tests n ≡ Some t → test_at tests n ≡ t
at-test [] zero t h = absurd (cc)
at-test [] (suc n) t h = absurd (cc)
at-test (x ∷ xs) zero t h = cc
at-test (x ∷ xs) (suc n) t h = at-test xs n t h

-- a value that answers the pair at each place answers the slot
pub slot-answered : (tests : List Test) (ps : Answers) (s : Slot) (v : SlotValue) → ((k : ℕ) (d : ℕ × Bool) → k < length ps → slot_of (test_at tests (get_or ps k d).0) ≡ s → AnswersTest v (test_at tests (get_or ps k d).0) (get_or ps k d).1) → AnswersSlot tests ps s v
slot-answered tests ps s v each n b t answered at on =
    let place = answer-place ps n b answered in
    let same : test_at tests n ≡ t = at-test tests n t at in
    let says = subst (λ (p : ℕ × Bool). slot_of (test_at tests p.0) ≡ s → AnswersTest v (test_at tests p.0) p.1) place.2 (each place.0 (n, b) place.1) in
    subst (λ (x : Test). AnswersTest v x b) same (says (ap slot_of same ∙ on))

-- ---- the loops over answers

pub own-test : (tests : List Test) (n : ℕ) (t : Test) → n < length tests → t ≡ get_or tests n t → t ≡ test_at tests n
own-test tests n t h read = read ∙ get_or_default tests n t (Action []) h

module _ (tests : List Test) (ps : Answers) (s : Slot) (range : PathInRange tests ps) (distinct : IsDistinct ps) where
  abbrev at : ℕ → ℕ × Bool → ℕ
  at i d = (get_or ps i d).0

  test-own : (i : ℕ) (d : ℕ × Bool) (t : Test) → i < length ps → t ≡ get_or tests (at i d) t → t ≡ test_at tests (at i d)
  test-own i d t h read = own-test tests (at i d) t (range-at tests ps i d range distinct h) read

  pub on-at : (i : ℕ) (d : ℕ × Bool) (t : Test) → i < length ps → t ≡ get_or tests (at i d) t → is_on s t ≡ true → IsAnsweredOn tests ps s (at i d)
  on-at i d t h read on =
      let e : answer_of ps (at i d) ≡ Some (get_or ps i d).1 = answer-at ps i d distinct h in
      record { answered = rw e refl; on_slot = ap slot_of (sym (test-own i d t h read)) ∙ on-slot s t on }

  pub last-more : (i : ℕ) (d0 : ℕ × Bool) (t : Test) → 0 < i → i ≤ length ps → t ≡ get_or tests (at (i - 1) d0) t → is_on s t ≡ false →
      ((k : ℕ) (d : ℕ × Bool) → i ≤ k → k < length ps → slot_of (test_at tests (at k d)) ≡ s → ⊥) → (k : ℕ) (d : ℕ × Bool) → i - 1 ≤ k → k < length ps → slot_of (test_at tests (at k d)) ≡ s → ⊥
  last-more i d0 t some within read off before k d h l on =
      elim (cases_lt k i) [
        | inr g ↦ before k d g l on
        | inl g ↦
            let e : k ≡ i - 1 = omega arith in
            let same : get_or ps k d ≡ get_or ps (i - 1) d0 = get_or_default ps k d d0 l ∙ ap (λ j. get_or ps j d0) e in
            let own : t ≡ test_at tests (at (i - 1) d0) = test-own (i - 1) d0 t (omega arith) read in
            not-on s t off (ap slot_of own ∙ (ap (λ (p : ℕ × Bool). slot_of (test_at tests p.0)) (sym same) ∙ on))
      ]

  pub wrong-by : (v : SlotValue) (i : ℕ) (d : ℕ × Bool) (t : Test) → i < length ps → t ≡ get_or tests (at i d) t → IsOtherwise s v t (get_or ps i d).1 → IsWrong tests ps s v (at i d)
  wrong-by v i d t h read o = wrong-at tests ps s v i d distinct h (subst (λ (x : Test). IsOtherwise s v x (get_or ps i d).1) (test-own i d t h read) o)

  pub right-more : (v : SlotValue) (i : ℕ) (d0 : ℕ × Bool) (t : Test) → i < length ps → t ≡ get_or tests (at i d0) t → (slot_of t ≡ s → AnswersTest v t (get_or ps i d0).1) →
      ((k : ℕ) (d : ℕ × Bool) → k < i → slot_of (test_at tests (at k d)) ≡ s → AnswersTest v (test_at tests (at k d)) (get_or ps k d).1) →
      (k : ℕ) (d : ℕ × Bool) → k < i + 1 → slot_of (test_at tests (at k d)) ≡ s → AnswersTest v (test_at tests (at k d)) (get_or ps k d).1
  right-more v i d0 t h read here before k d l on =
      elim (cases_lt k i) [
        | inl g ↦ before k d g on
        | inr g ↦
            let e : k ≡ i = omega arith in
            let same : get_or ps i d0 ≡ get_or ps k d = ap (λ j. get_or ps j d0) (sym e) ∙ get_or_default ps k d0 d (omega arith) in
            let says : slot_of (test_at tests (at i d0)) ≡ s → AnswersTest v (test_at tests (at i d0)) (get_or ps i d0).1 = subst (λ (x : Test). slot_of x ≡ s → AnswersTest v x (get_or ps i d0).1) (test-own i d0 t h read) here in
            subst (λ (p : ℕ × Bool). slot_of (test_at tests p.0) ≡ s → AnswersTest v (test_at tests p.0) p.1) same says on
      ]

  pub asked-none : (i : ℕ) → HasTest tests ps s → i ≤ 0 → ((k : ℕ) (d : ℕ × Bool) → i ≤ k → k < length ps → slot_of (test_at tests (at k d)) ≡ s → ⊥) → ⊥
  asked-none i asked h none =
      let w = some-answer (answer_of ps asked.number) asked.is.answered in
      let place = answer-place ps asked.number w.0 w.1 in
      none place.0 (asked.number, w.0) (omega arith) place.1 (subst (λ (p : ℕ × Bool). slot_of (test_at tests p.0) ≡ s) (sym place.2) asked.is.on_slot)

-- A path of tests of one slot is possible where the slot has a value for it, and what that says of predicates.
use Rattle.std.proofs.Common.{◌≡◌, ◌<◌, ◌∙◌, ◌⊎◌, ℕ, zero, suc, List, [], ◌∷◌, length, slice_get, Bool, true, false, MatchBool, Option, Some, None, IsSome, All, refl, sym, ap, subst, inl, inr, arith}
use Rattle.std.specs.Prelude.{MatchOption, IfSome}
use Rattle.std.proofs.lemmas.Bool.{cases_Bool}
use Rattle.std.proofs.lemmas.List.Elements.{All-nil, All-cons}
use Rattle.formula_tree.specs.Answers.{Answers, answer_of}
use Rattle.formula_tree.specs.Trees as tree
use Rattle.text_table.specs.Table.{IsInOrder}
use Rattle.policy_model.specs.declared.request.Request.{Request}
use Rattle.policy_model.specs.declared.schema.Schema.{Schema}
use Rattle.policy_model.specs.declared.test.Slot.{Slot}
use Rattle.policy_model.specs.declared.test.Slot.TheVariants as slot
use Rattle.policy_model.specs.declared.test.Test.{Test}
use Rattle.policy_model.specs.declared.test.Test.TheVariants as test
use Rattle.policy_model.specs.Requests.{IsValid}
use Rattle.policy_model.specs.Soundness.{SchemaIsSound, TestSuits}
use Rattle.policy_model.specs.Tests.{TestHolds}
use Rattle.policy_model.proofs.Laws.{Any-here}
use Rattle.request_build.proofs.Laws.{joined-possible}
use Rattle.slot_theory.specs.declared.outcome.SlotValue.{SlotValue}
use Rattle.slot_theory.specs.Cores.{HasTest}
use Rattle.slot_theory.specs.Possible.{IsPossible, PathInRange}
use Rattle.slot_theory.specs.Slots.{IsSlotValue, slot_of}
use Rattle.refute_check.specs.Laws.{MakesYes}
use Rattle.tree_search.proofs.Laws.{makes-yes}
use Rattle.strata.specs.declared.predicate.Predicate.{Predicate}
use Rattle.strata.specs.declared.predicate.Predicate.TheVariants.{Every, Principal, Word, Meets}
use Rattle.strata.specs.Predicates.{IsAnyOr, SuitsSlot, test_of}
use Rattle.summary_search.specs.Questions.{IsTestOnSlot}

-- ---- one slot

some-is : (o : Option Bool) → IsSome o → (b : Bool) × (o ≡ Some b)
some-is None h = absurd (cc)
some-is (Some b) h = (b, refl)

module _ (schema : Schema) (tests : List Test) (path : Answers) (s : Slot) where
  -- a slot that the path asks about is this one
  on-one : PathInRange tests path → All (λ (t : Test). slot_of t ≡ s) tests → (other : Slot) → HasTest tests path other → s ≡ other
  on-one range on other has =
      let given = some-is (answer_of path has.number) has.is.answered in
      let within : has.number < length tests = range has.number given.0 given.1 in
      sym (on has.number (test.Action []) within) ∙ has.is.on_slot

  -- a value of the slot at the path is part of a valid request that answers the path
  pub found-possible : SchemaIsSound schema → IsInOrder schema.keys → PathInRange tests path → All (λ (t : Test). slot_of t ≡ s) tests → HasTest tests path s → (v : SlotValue) → IsSlotValue schema tests path s v → IsPossible schema tests path
  found-possible sound order range on asked v is = joined-possible schema tests path ((s, v) ∷ []) sound order (record {
    each = All-cons (λ (p : Slot × SlotValue). IsSlotValue schema tests path p.0 p.1) (s, v) [] is (All-nil (λ (p : Slot × SlotValue). IsSlotValue schema tests path p.0 p.1));
    needed = All-cons (λ (p : Slot × SlotValue). HasTest tests path p.0) (s, v) [] asked (All-nil (λ (p : Slot × SlotValue). HasTest tests path p.0));
    there = λ other has. Any-here (λ (p : Slot × SlotValue). p.0 ≡ other) (s, v) [] (on-one range on other has);
    once = λ i j d low within. absurd (omega arith);
  })

-- ---- each test is decided

-- a request that isn't denied to pass a test passes it
pub not-not : (r : Request) (t : Test) → ¬ ¬ TestHolds r t → TestHolds r t
not-not r t denied =
    let some_yes : MakesYes (t ∷ []) tree.yes r = makes-yes (t ∷ []) tree.yes [] r (λ n b e. absurd (cc)) (λ n b u e at. absurd (cc)) refl in
    elim (cases_Bool (some_yes.0 0)) [
      | inl e ↦ (some_yes.1 0 t refl).0 e
      | inr e ↦ absurd (denied (λ holds. let there = (some_yes.1 0 t refl).1 holds in absurd (cc)))
    ]

-- ---- one test and two

-- what a path of one answer answers
pub one-at : (t u : Test) (answer b : Bool) (n : ℕ) → answer_of ((0, answer) ∷ []) n ≡ Some b → slice_get (t ∷ []) n ≡ Some u → (answer ≡ b) × (t ≡ u)
one-at t u answer b zero e at = (cc, cc)
one-at t u answer b (suc n) e at = absurd (cc)

-- and of two
pub two-at : (t u x : Test) (b : Bool) (n : ℕ) → answer_of ((0, true) ∷ (1, false) ∷ []) n ≡ Some b → slice_get (t ∷ u ∷ []) n ≡ Some x → ((true ≡ b) × (t ≡ x)) ⊎ ((false ≡ b) × (u ≡ x))
two-at t u x b zero e at = inl (cc, cc)
two-at t u x b (suc zero) e at = inr (cc, cc)
two-at t u x b (suc (suc n)) e at = absurd (cc)

-- the answer of a request to a test
abbrev Says : Request → Test → Bool → Type 0
Says r t b = MatchBool b (TestHolds r t) (¬ TestHolds r t)

says-same : (r : Request) (t u : Test) (a b : Bool) → a ≡ b → t ≡ u → Says r t a → Says r u b
says-same r t u a b same one h = subst (λ (x : Test). Says r x b) one (subst (Says r t) same h)

module _ (schema : Schema) (t : Test) where
  -- a request that answers one test so answers the path
  pub one-possible : (answer : Bool) (r : Request) → IsValid schema r → MatchBool answer (TestHolds r t) (¬ TestHolds r t) → IsPossible schema (t ∷ []) ((0, answer) ∷ [])
  one-possible answer r valid holds = record {
    request = r;
    valid = valid;
    answers = λ n b u e at. let is = one-at t u answer b n e at in says-same r t u answer b is.0 is.1 holds;
  }

  pub one-answered : (answer : Bool) (p : IsPossible schema (t ∷ []) ((0, answer) ∷ [])) → MatchBool answer (TestHolds p.request t) (¬ TestHolds p.request t)
  one-answered answer p = p.answers 0 answer t refl refl

module _ (schema : Schema) (t u : Test) where
  pub two-possible : (r : Request) → IsValid schema r → TestHolds r t → ¬ TestHolds r u → IsPossible schema (t ∷ u ∷ []) ((0, true) ∷ (1, false) ∷ [])
  two-possible r valid holds fails = record {
    request = r;
    valid = valid;
    answers = λ n b x e at.
        elim (two-at t u x b n e at) [
          | inl is ↦ says-same r t x true b is.0 is.1 holds
          | inr is ↦ says-same r u x false b is.0 is.1 fails
        ];
  }

  pub two-yes : (p : IsPossible schema (t ∷ u ∷ []) ((0, true) ∷ (1, false) ∷ [])) → TestHolds p.request t
  two-yes p = p.answers 0 true t refl refl

  pub two-no : (p : IsPossible schema (t ∷ u ∷ []) ((0, true) ∷ (1, false) ∷ [])) → ¬ TestHolds p.request u
  two-no p = p.answers 1 false u refl refl

-- ---- predicates

-- a predicate that suits the slot and has no test is `any`
pub no-test : (schema : Schema) (s : Slot) (p : Predicate) → SuitsSlot schema s p → test_of s p ≡ None → p ≡ Every
no-test schema s Every suits e = refl
no-test schema s (Principal entry) suits e = absurd (subst (λ (o : Option Test). MatchOption o ⊥ (TestSuits schema)) e suits)
no-test schema s (Word pattern) suits e = absurd (subst (λ (o : Option Test). MatchOption o ⊥ (TestSuits schema)) e suits)
no-test schema s (Meets c) suits e = absurd (subst (λ (o : Option Test). MatchOption o ⊥ (TestSuits schema)) e suits)

-- `any` has no test
pub every-none : (s : Slot) → test_of s Every ≡ None
every-none slot.Principal = refl
every-none slot.Action = refl
every-none slot.Resource = refl
every-none (slot.Key key) = refl

-- what holds of a predicate's test
pub of-test : (P : Test → Type 0) (s : Slot) (p : Predicate) (t : Test) → test_of s p ≡ Some t → IsAnyOr P s p → P t
of-test P s Every t e h = let none = every-none s in absurd (cc)
of-test P s (Principal entry) t e h = subst (λ (o : Option Test). MatchOption o ⊥ P) e h
of-test P s (Word pattern) t e h = subst (λ (o : Option Test). MatchOption o ⊥ P) e h
of-test P s (Meets c) t e h = subst (λ (o : Option Test). MatchOption o ⊥ P) e h

-- and the other way
pub by-test : (P : Test → Type 0) (s : Slot) (p : Predicate) (t : Test) → test_of s p ≡ Some t → P t → IsAnyOr P s p
by-test P s Every t e h = tt
by-test P s (Principal entry) t e h = subst (λ (o : Option Test). MatchOption o ⊥ P) (sym e) h
by-test P s (Word pattern) t e h = subst (λ (o : Option Test). MatchOption o ⊥ P) (sym e) h
by-test P s (Meets c) t e h = subst (λ (o : Option Test). MatchOption o ⊥ P) (sym e) h

-- the test of a predicate is on its slot
pub test-on : (s : Slot) (p : Predicate) (t : Test) → test_of s p ≡ Some t → slot_of t ≡ s
test-on slot.Principal (Principal entry) t e = let same : t ≡ test.Principal entry = cc in ap slot_of same
test-on slot.Action (Word pattern) t e = let same : t ≡ test.Action pattern = cc in ap slot_of same
test-on slot.Resource (Word pattern) t e = let same : t ≡ test.Resource pattern = cc in ap slot_of same
test-on (slot.Key key) (Meets c) t e = let same : t ≡ test.SomeMeets key c = cc in ap slot_of same
test-on _ _ t e = absurd (cc)

-- the test of a predicate that suits the slot
pub is-test : (schema : Schema) (s : Slot) (p : Predicate) (t : Test) → SuitsSlot schema s p → test_of s p ≡ Some t → IsTestOnSlot schema s t
is-test schema s p t suits e = record { suits = of-test (TestSuits schema) s p t e suits; on = test-on s p t e }

pub if-test : (schema : Schema) (s : Slot) (p : Predicate) (o : Option Test) → SuitsSlot schema s p → o ≡ test_of s p → IfSome o (IsTestOnSlot schema s)
if-test schema s p None suits e = tt
if-test schema s p (Some t) suits e = is-test schema s p t suits (sym e)

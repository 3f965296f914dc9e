-- A value answers the tests of a core as the path does where their patterns match it so; of a principal the patterns of the tests
-- that have no fixed answer for its kind, where no fixed answer is contradicted.
use Rattle.std.proofs.Common.{◌≡◌, ◌≢◌, ◌↔◌, ℕ, List, [], ◌∷◌, get_or, Bool, true, false, Option, Some, None, unwrap_or, IsSome, IsSomeAnd, All, Any, MatchBool, refl, sym, ap, ◌∙◌, subst, inl, inr}
use Rattle.std.specs.List.{filter}
use Rattle.std.specs.Option.{is_none}
use Rattle.std.proofs.lemmas.Bool.{cases_Bool}
use Rattle.std.proofs.lemmas.List.{get_or_default}
use Rattle.std.proofs.lemmas.List.Elements.{All-nil, All-cons, All-head, All-tail, All-filter, filter_passes}
use Rattle.wildcard_lang.specs.Matching.{Matches}
use Rattle.formula_tree.specs.Answers.{Answers, answer_of}
use Rattle.policy_model.specs.declared.principal.PrincipalKind.{PrincipalKind}
use Rattle.policy_model.specs.declared.test.Slot.{Slot}
use Rattle.policy_model.specs.declared.test.Slot.TheVariants as slot
use Rattle.policy_model.specs.declared.test.Test.{Test}
use Rattle.policy_model.specs.declared.test.Test.TheVariants.{Principal, Action, Resource, Present, SomeMeets, SomeMeetsNone}
use Rattle.slot_theory.specs.declared.outcome.SlotValue.TheVariants as value
use Rattle.slot_theory.specs.Slots.{IsWordSlot, ValueMeets, fixed_at, slot_of, test_at, AnswersTest}
use Rattle.slot_theory.specs.Cores.{IsContradicted, open_tests}
use Rattle.slot_theory.specs.Steps.{IsRight}
use Rattle.slot_theory.proofs.Wanting.{IsMatchedSo, own_pattern}
use Rattle.slot_theory.proofs.Naming.{fixed-names, open-names}

-- ---- one test

word-meets : (w : List ℕ) (t : Test) (s : Slot) → IsWordSlot s → slot_of t ≡ s → ValueMeets (value.Word w) t ≡ Matches (own_pattern t) w
word-meets w (Principal entry) s h e = absurd (subst IsWordSlot (sym e) h)
word-meets w (Action pattern) s h e = refl
word-meets w (Resource pattern) s h e = refl
word-meets w (Present key) s h e = absurd (subst IsWordSlot (sym e) h)
word-meets w (SomeMeets key c) s h e = absurd (subst IsWordSlot (sym e) h)
word-meets w (SomeMeetsNone key cs) s h e = absurd (subst IsWordSlot (sym e) h)

id-meets : (k : PrincipalKind) (id : List ℕ) (t : Test) → slot_of t ≡ slot.Principal → fixed_at k t ≡ None → ValueMeets (value.Principal k id) t ↔ Matches (own_pattern t) id
id-meets k id (Principal entry) on e = open-names k id entry e
id-meets k id (Action pattern) on e = absurd (cc)
id-meets k id (Resource pattern) on e = absurd (cc)
id-meets k id (Present key) on e = absurd (cc)
id-meets k id (SomeMeets key c) on e = absurd (cc)
id-meets k id (SomeMeetsNone key cs) on e = absurd (cc)

id-fixed : (k : PrincipalKind) (id : List ℕ) (t : Test) (b : Bool) → slot_of t ≡ slot.Principal → fixed_at k t ≡ Some b → AnswersTest (value.Principal k id) t b
id-fixed k id (Principal entry) b on e = fixed-names k id entry b e
id-fixed k id (Action pattern) b on e = absurd (cc)
id-fixed k id (Resource pattern) b on e = absurd (cc)
id-fixed k id (Present key) b on e = absurd (cc)
id-fixed k id (SomeMeets key c) b on e = absurd (cc)
id-fixed k id (SomeMeetsNone key cs) b on e = absurd (cc)

-- ---- answers

abbrev pub So : Bool → Type 0 → Type 0
So b A = MatchBool b A (A → ⊥)

pub so-iff : (b : Bool) (A B : Type 0) → A ↔ B → So b A → So b B
so-iff true A B h m = h.0 m
so-iff false A B h m = λ y. m (h.1 y)

so-same : (a b : Bool) (A : Type 0) → So a A → So b A → a ≡ b
so-same true true A x y = refl
so-same true false A x y = absurd (y x)
so-same false true A x y = absurd (x y)
so-same false false A x y = refl

pub answered-by : (o : Option Bool) → IsSome o → o ≡ Some (unwrap_or o false)
answered-by None h = absurd (cc)
answered-by (Some b) h = refl

-- an answer that doesn't differ from another one is that one
not-other : (o : Option Bool) (b : Bool) → (o ≢ Some b → ⊥) → unwrap_or o false ≡ b
not-other None b h = absurd (h (λ e. cc))
not-other (Some true) true h = refl
not-other (Some true) false h = absurd (h (λ e. cc))
not-other (Some false) true h = absurd (h (λ e. cc))
not-other (Some false) false h = refl

some-and : (o : Option Bool) (P : Bool → Type 0) → IsSomeAnd o P → (b : Bool) × (o ≡ Some b) × P b
some-and None P h = absurd h
some-and (Some b) P h = (b, refl, h)

and-some : (o : Option Bool) (P : Bool → Type 0) (b : Bool) → o ≡ Some b → P b → IsSomeAnd o P
and-some o P b e h = rw e h

-- ---- filters

module _ (p : ℕ → Bool) (P : ℕ → Type 0) where
  filtered : (xs : List ℕ) → All (λ x. p x ≡ true → P x) xs → All P (filter p xs)
  filtered xs a k d l = All-filter p (λ x. p x ≡ true → P x) xs a k d l (filter_passes p xs k d l)

  unfiltered : (xs : List ℕ) → All P (filter p xs) → All (λ x. p x ≡ true → P x) xs
  unfiltered [] a = All-nil (λ x. p x ≡ true → P x)
  unfiltered (x ∷ xs) a = elim (cases_Bool (p x)) [
    | inl e ↦
        let more : All P (x ∷ filter p xs) = rw e at a in
        All-cons (λ x. p x ≡ true → P x) x xs (λ h. All-head P x (filter p xs) more) (unfiltered xs (All-tail P x (filter p xs) more))
    | inr e ↦
        let same : All P (filter p xs) = rw e at a in
        All-cons (λ x. p x ≡ true → P x) x xs (λ h. absurd (cc)) (unfiltered xs same)
  ]

pub none-is : (o : Option Bool) → is_none o ≡ true → o ≡ None
none-is None h = refl
none-is (Some b) h = absurd (cc)

-- ---- the tests of a core

module _ (tests : List Test) (path : Answers) (core : List ℕ) where
  abbrev own : ℕ → Test
  own n = test_at tests n

  abbrev holds : ℕ → Bool
  holds n = unwrap_or (answer_of path n) false

  abbrev AreOn : Slot → Type 0
  AreOn s = All (λ n. slot_of (own n) ≡ s) core

  pub words-so : (s : Slot) (w : List ℕ) → IsWordSlot s → AreOn s → All (IsRight tests path (value.Word w)) core → All (IsMatchedSo tests path w) core
  words-so s w h on right k d l = subst (So (holds (get_or core k d))) (word-meets w (own (get_or core k d)) s h (on k d l)) (right k d l)

  pub words-right : (s : Slot) (w : List ℕ) → IsWordSlot s → AreOn s → All (IsMatchedSo tests path w) core → All (IsRight tests path (value.Word w)) core
  words-right s w h on so k d l = subst (So (holds (get_or core k d))) (sym (word-meets w (own (get_or core k d)) s h (on k d l))) (so k d l)

  module _ (kind : PrincipalKind) (id : List ℕ) (on : AreOn slot.Principal) where
    abbrev Right : ℕ → Type 0
    Right n = IsRight tests path (value.Principal kind id) n

    abbrev is_open : ℕ → Bool
    is_open n = is_none (fixed_at kind (own n))

    pub open-so : All Right core → All (IsMatchedSo tests path id) (open_tests tests kind core)
    open-so right = filtered is_open (IsMatchedSo tests path id) core (λ k d l free.
        let n = get_or core k d in
        so-iff (holds n) (ValueMeets (value.Principal kind id) (own n)) (Matches (own_pattern (own n)) id) (id-meets kind id (own n) (on k d l) (none-is (fixed_at kind (own n)) free)) (right k d l))

    -- a fixed answer that the path contradicts is no principal's
    pub never-right : All (λ n. IsSome (answer_of path n)) core → Any (IsContradicted tests path kind) core → All Right core → ⊥
    never-right answered never right =
        let n = never.1 in
        let fixed = some-and (fixed_at kind (own n)) (λ b. answer_of path n ≢ Some b) never.4 in
        let here : slot_of (own n) ≡ slot.Principal = subst (λ (m : ℕ). slot_of (own m) ≡ slot.Principal) never.3 (on never.0 n never.2) in
        let known : IsSome (answer_of path n) = subst (λ (m : ℕ). IsSome (answer_of path m)) never.3 (answered never.0 n never.2) in
        let says : Right n = subst Right never.3 (right never.0 n never.2) in
        let same : holds n ≡ fixed.0 = so-same (holds n) fixed.0 (ValueMeets (value.Principal kind id) (own n)) says (id-fixed kind id (own n) fixed.0 here fixed.1) in
        fixed.2 (answered-by (answer_of path n) known ∙ ap (λ (b : Bool). Some b) same)

    right-one : (n : ℕ) (o : Option Bool) → fixed_at kind (own n) ≡ o → slot_of (own n) ≡ slot.Principal → (IsContradicted tests path kind n → ⊥) → (is_open n ≡ true → IsMatchedSo tests path id n) → Right n
    right-one n None e here none so =
        let meets = id-meets kind id (own n) here e in
        so-iff (holds n) (Matches (own_pattern (own n)) id) (ValueMeets (value.Principal kind id) (own n)) (meets.1, meets.0) (so (rw e refl))
    right-one n (Some b) e here none so =
        let same : holds n ≡ b = not-other (answer_of path n) b (λ differs. none (and-some (fixed_at kind (own n)) (λ x. answer_of path n ≢ Some x) b e differs)) in
        subst (λ (x : Bool). So x (ValueMeets (value.Principal kind id) (own n))) (sym same) (id-fixed kind id (own n) b here e)

    -- where no fixed answer is contradicted, an id that the patterns of the others match so is right
    pub open-right : (Any (IsContradicted tests path kind) core → ⊥) → All (IsMatchedSo tests path id) (open_tests tests kind core) → All Right core
    open-right none so k d l =
        let n = get_or core k d in
        right-one n (fixed_at kind (own n)) refl (on k d l) (λ contradicted. none (k, n, l, get_or_default core k n d l, contradicted)) (unfiltered is_open (IsMatchedSo tests path id) core so k d l)

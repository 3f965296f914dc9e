-- A valid request has at the slot of an accepted core a value, which doesn't answer the core.
use Rattle.std.proofs.Common.{◌≡◌, ℕ, List, [], get_or, false, unwrap_or, Option, Some, None, All, Any, ◌↔◌, ◌≢◌, refl, sym, subst}
use Rattle.std.specs.Prelude.{MatchOption}
use Rattle.text_table.proofs.Laws.{item_at-All}
use Rattle.policy_model.proofs.Laws.{values-permitted}
use Rattle.std.proofs.lemmas.List.{get_or_default}
use Rattle.std.proofs.lemmas.Option.{slice_get-get_or}
use Rattle.formula_tree.specs.Answers.{Answers, answer_of}
use Rattle.policy_model.specs.declared.principal.PrincipalKind.{PrincipalKind}
use Rattle.policy_model.specs.declared.principal.PrincipalKind.TheVariants.{Aws, Service, Federated, CanonicalUser}
use Rattle.policy_model.specs.declared.request.Request.{Request}
use Rattle.policy_model.specs.declared.schema.KeyRule.{KeyRule}
use Rattle.policy_model.specs.declared.schema.Schema.{Schema}
use Rattle.policy_model.specs.declared.value.Value.{Value}
use Rattle.set_operators.specs.declared.answer.KeyAnswer.TheVariants as answer
use Rattle.set_operators.specs.Asks.{AreValuesOf, Asks, HaveNone}
use Rattle.set_operators.proofs.Laws.{shown_is_right}
use Rattle.text_table.specs.Table.{item_at}
use Rattle.policy_model.specs.declared.test.Slot.{Slot}
use Rattle.policy_model.specs.declared.test.Slot.TheVariants as slot
use Rattle.policy_model.specs.declared.test.Test.{Test}
use Rattle.policy_model.specs.declared.test.Test.TheVariants.{Principal, Action, Resource, Present, SomeMeets, SomeMeetsNone}
use Rattle.policy_model.specs.Conditions.{values_at}
use Rattle.policy_model.specs.Conds.{CondMeets, MeetsSome}
use Rattle.policy_model.specs.Requests.{HasValue, IsThere, IsValid, IsWord, shape_of}
use Rattle.policy_model.specs.Soundness.{TestSuits}
use Rattle.policy_model.specs.Tests.{TestHolds}
use Rattle.slot_theory.specs.declared.outcome.KindProof.{KindProof}
use Rattle.slot_theory.specs.declared.outcome.KindProof.TheVariants.{Never, Closed}
use Rattle.slot_theory.specs.declared.outcome.SlotValue.{SlotValue}
use Rattle.slot_theory.specs.declared.outcome.SlotValue.TheVariants as value
use Rattle.slot_theory.specs.declared.outcome.SlotProof.{SlotProof}
use Rattle.slot_theory.specs.declared.outcome.SlotProof.TheVariants as proof
use Rattle.slot_theory.specs.Slots.{IsWordSlot, ValueMeets, shape_at, slot_of, test_at}
use Rattle.slot_theory.specs.Wants.{IsClosedFor}
use Rattle.slot_theory.specs.Cores.{Accepts, IsCore, KeyShows, KindShows, PrincipalShows, Shows, WordShows, asks_of, open_tests}
use Rattle.slot_theory.specs.Steps.{IsRight}
use Rattle.slot_theory.specs.Possible.{AnswersCore, AnswersPath, IsPossible}
use Rattle.slot_theory.specs.Acceptance.{AcceptedCoresAreImpossible}
use Rattle.slot_theory.proofs.Products.{open-have, words-have}
use Rattle.slot_theory.proofs.Wanting.{closed-none}
use Rattle.slot_theory.proofs.Answering.{answered-by, never-right, open-so, so-iff, words-so}
use Rattle.slot_theory.proofs.Keyed.{keys-answer}

-- ---- the value that a request has at a slot

-- the word of a request at a slot
abbrev word_of : Slot → Request → List ℕ
word_of slot.Principal r = []
word_of slot.Action r = r.action
word_of slot.Resource r = r.resource
word_of (slot.Key name) r = []

word-is : (schema : Schema) (s : Slot) (r : Request) → IsWordSlot s → IsValid schema r → IsWord (shape_at schema s) (word_of s r)
word-is schema slot.Principal r h v = absurd h
word-is schema slot.Action r h v = v.words.action
word-is schema slot.Resource r h v = v.words.resource
word-is schema (slot.Key name) r h v = absurd h

-- equal types hold of the same
same-iff : (A B : Type 0) → A ≡ B → A ↔ B
same-iff A B e = subst (λ (X : Type 0). A ↔ X) e (λ x. x, λ x. x)

-- a test on a word slot speaks of the word
word-test : (r : Request) (t : Test) (s : Slot) → IsWordSlot s → slot_of t ≡ s → TestHolds r t ≡ ValueMeets (value.Word (word_of s r)) t
word-test r (Principal entry) s h e = absurd (subst IsWordSlot (sym e) h)
word-test r (Action pattern) s h e = rw (← e) refl
word-test r (Resource pattern) s h e = rw (← e) refl
word-test r (Present key) s h e = absurd (subst IsWordSlot (sym e) h)
word-test r (SomeMeets key c) s h e = absurd (subst IsWordSlot (sym e) h)
word-test r (SomeMeetsNone key cs) s h e = absurd (subst IsWordSlot (sym e) h)

-- a test on the principal speaks of the principal
principal-test : (r : Request) (t : Test) → slot_of t ≡ slot.Principal → TestHolds r t ≡ ValueMeets (value.Principal r.kind r.id) t
principal-test r (Principal entry) e = refl
principal-test r (Action pattern) e = absurd (cc)
principal-test r (Resource pattern) e = absurd (cc)
principal-test r (Present key) e = absurd (cc)
principal-test r (SomeMeets key c) e = absurd (cc)
principal-test r (SomeMeetsNone key cs) e = absurd (cc)

has-some : (o : Option (List Value)) → MatchOption o ⊥ (λ vs. vs ≢ []) ↔ (unwrap_or o [] ≢ [])
has-some None = (λ h. absurd h, λ h. absurd (h refl))
has-some (Some vs) = (λ h. h, λ h. h)

-- a test on a key speaks of the key's values
pub key-test : (r : Request) (t : Test) (key : List ℕ) → slot_of t ≡ slot.Key key → TestHolds r t ↔ ValueMeets (value.Values (values_at r key)) t
key-test r (Principal entry) key e = absurd (cc)
key-test r (Action pattern) key e = absurd (cc)
key-test r (Resource pattern) key e = absurd (cc)
key-test r (Present k) key e =
    let same : k ≡ key = cc in
    subst (λ (x : List ℕ). HasValue r.context k ↔ (values_at r x ≢ [])) same (has-some (item_at k r.context))
key-test r (SomeMeets k c) key e =
    let same : k ≡ key = cc in
    subst (λ (x : List ℕ). Any (λ v. CondMeets v c) (values_at r k) ↔ Any (λ v. CondMeets v c) (values_at r x)) same (λ h. h, λ h. h)
key-test r (SomeMeetsNone k cs) key e =
    let same : k ≡ key = cc in
    subst (λ (x : List ℕ). Any (λ v. ¬ MeetsSome cs v) (values_at r k) ↔ Any (λ v. ¬ MeetsSome cs v) (values_at r x)) same (λ h. h, λ h. h)

-- ---- the values of a key in a valid request

module _ (schema : Schema) (key : List ℕ) (rule : KeyRule) (r : Request) (there : item_at key schema.keys ≡ Some rule) (valid : IsValid schema r) where
  -- are some that its rule permits
  pub values-are : AreValuesOf rule (values_at r key)
  values-are = record {
    permitted = values-permitted schema r key rule valid there;
    there = λ required.
        let has : HasValue r.context key = item_at-All (IsThere r.context) key schema.keys rule valid.keys.required there required in
        (has-some (item_at key r.context)).0 has;
  }

-- ---- the core's tests on a request

module _ (tests : List Test) (path : Answers) (s : Slot) (core : List ℕ) (r : Request) (v : SlotValue) where
  -- a value that the slot's tests speak of answers the core as the path does, where the request does
  core-right : IsCore tests path core s → AnswersCore tests path core r → ((t : Test) → slot_of t ≡ s → TestHolds r t ↔ ValueMeets v t) → All (IsRight tests path v) core
  core-right is answers speaks k d l =
      let n = get_or core k d in
      let t = test_at tests n in
      let says = answers n (unwrap_or (answer_of path n) false) t (k, l, get_or_default core k n d l) (answered-by (answer_of path n) (is.answered k d l)) (slice_get-get_or tests n (Action []) (is.within k d l)) in
      so-iff (unwrap_or (answer_of path n) false) (TestHolds r t) (ValueMeets v t) (speaks t (is.on_slot k d l)) says

-- ---- the proof of one key

-- a proof on a key leaves it no values
shown-none : (rule : KeyRule) (asks : Asks) (core : List ℕ) (p : SlotProof) → KeyShows rule asks core p → HaveNone rule asks
shown-none rule asks core proof.Points h = shown_is_right rule asks answer.Points h
shown-none rule asks core proof.Absent h = shown_is_right rule asks answer.Absent h
shown-none rule asks core proof.Required h = shown_is_right rule asks answer.Required h
shown-none rule asks core (proof.Word set) h = shown_is_right rule asks (answer.Together set) h
shown-none rule asks core (proof.Kinds aws service federated canonical_user) h = absurd h
shown-none rule asks core (proof.Member n set) h = shown_is_right rule asks (answer.Member h.0 set) h.2
shown-none rule asks core (proof.SomeMember set) h = shown_is_right rule asks (answer.SomeMember set) h

-- ---- the proof of one kind

module _ (schema : Schema) (tests : List Test) (path : Answers) (core : List ℕ) where
  kind-none : (k : PrincipalKind) (proof : KindProof) (id : List ℕ) → KindShows schema tests path core k proof → IsCore tests path core slot.Principal → IsWord (shape_of schema.shapes k) id → All (IsRight tests path (value.Principal k id)) core → ⊥
  kind-none k Never id shows is word right = never-right tests path core k id is.on_slot is.answered shows right
  kind-none k (Closed closed) id shows is word right =
      closed-none tests path (shape_of schema.shapes k) (open_tests tests k core) (open-have tests k core is.on_slot) closed id shows word (open-so tests path core k id is.on_slot right)

  word-none : (s : Slot) (closed : List (List (List ℕ))) (w : List ℕ) → IsClosedFor tests path core (shape_at schema s) closed → IsWordSlot s → IsCore tests path core s → IsWord (shape_at schema s) w → All (IsRight tests path (value.Word w)) core → ⊥
  word-none s closed w set h is word right = closed-none tests path (shape_at schema s) core (words-have tests s core h is.on_slot) closed w set word (words-so tests path core s w h is.on_slot right)

  kinds-none : (aws service federated canonical_user : KindProof) → KindShows schema tests path core Aws aws → KindShows schema tests path core Service service → KindShows schema tests path core Federated federated → KindShows schema tests path core CanonicalUser canonical_user →
      (k : PrincipalKind) (id : List ℕ) → IsCore tests path core slot.Principal → IsWord (shape_of schema.shapes k) id → All (IsRight tests path (value.Principal k id)) core → ⊥
  kinds-none aws service federated canonical_user a b c d Aws id = kind-none Aws aws id a
  kinds-none aws service federated canonical_user a b c d Service id = kind-none Service service id b
  kinds-none aws service federated canonical_user a b c d Federated id = kind-none Federated federated id c
  kinds-none aws service federated canonical_user a b c d CanonicalUser id = kind-none CanonicalUser canonical_user id d

  -- ---- the proof of one slot

  module _ (r : Request) (valid : IsValid schema r) (answers : AnswersCore tests path core r) where
    principal-none : (p : SlotProof) → PrincipalShows schema tests path core p → IsCore tests path core slot.Principal → ⊥
    principal-none (proof.Kinds aws service federated canonical_user) (a, b, c, d) is =
        kinds-none aws service federated canonical_user a b c d r.kind r.id is valid.words.id
        (core-right tests path slot.Principal core r (value.Principal r.kind r.id) is answers (λ t on. same-iff _ _ (principal-test r t on)))
    principal-none (proof.Word set) h is = h
    principal-none proof.Points h is = h
    principal-none proof.Absent h is = h
    principal-none proof.Required h is = h
    principal-none (proof.Member n set) h is = h
    principal-none (proof.SomeMember set) h is = h

    words-none : (s : Slot) (p : SlotProof) → IsWordSlot s → WordShows (shape_at schema s) tests path core p → IsCore tests path core s → ⊥
    words-none s (proof.Word set) word h is =
        word-none s set (word_of s r) h word is (word-is schema s r word valid)
        (core-right tests path s core r (value.Word (word_of s r)) is answers (λ t on. same-iff _ _ (word-test r t s word on)))
    words-none s proof.Points word h is = h
    words-none s proof.Absent word h is = h
    words-none s proof.Required word h is = h
    words-none s (proof.Kinds aws service federated canonical_user) word h is = h
    words-none s (proof.Member n set) word h is = h
    words-none s (proof.SomeMember set) word h is = h

    key-none : (name : List ℕ) (p : SlotProof) (o : Option KeyRule) → item_at name schema.keys ≡ o → MatchOption o ⊥ (λ rule. KeyShows rule (asks_of tests path core) core p) → IsCore tests path core (slot.Key name) → ⊥
    key-none name p None there h is = h
    key-none name p (Some rule) there h is =
        let right = core-right tests path (slot.Key name) core r (value.Values (values_at r name)) is answers (λ t on. key-test r t name on) in
        shown-none rule (asks_of tests path core) core p h (values_at r name) (values-are schema name rule r there valid) (keys-answer tests path (values_at r name) name core is.on_slot right)

    slot-none : (s : Slot) (p : SlotProof) → Shows schema tests path core s p → IsCore tests path core s → ⊥
    slot-none slot.Principal p h is = principal-none p h is
    slot-none slot.Action p h is = words-none slot.Action p tt h is
    slot-none slot.Resource p h is = words-none slot.Resource p tt h is
    slot-none (slot.Key name) p h is = key-none name p (item_at name schema.keys) refl h is

pub core_impossible : AcceptedCoresAreImpossible
core_impossible schema tests path core p accepted r valid answers = slot-none schema tests path core r valid answers accepted.slot p accepted.conflict.shows accepted.conflict.core_is

-- a request that answers the path answers the core
pub path-core : (tests : List Test) (path : Answers) (core : List ℕ) (r : Request) → AnswersPath tests path r → AnswersCore tests path core r
path-core tests path core r answers n b t among = answers n b t

-- no valid request answers a path under which a core is accepted
pub impossible : (schema : Schema) (tests : List Test) (path : Answers) (core : List ℕ) (proof : SlotProof) → All (TestSuits schema) tests → Accepts schema tests path core proof → IsPossible schema tests path → ⊥
impossible schema tests path core proof suits accepted possible =
    core_impossible schema tests path core proof accepted possible.request possible.valid (path-core tests path core possible.request possible.answers)

-- A key's values answer the tests of a core as the path does exactly where they answer what the core asks of them.
use Rattle.std.proofs.Common.{◌≡◌, ◌<◌, ◌∙◌, ℕ, zero, suc, ◌+◌, List, [], ◌∷◌, ◌++◌, length, get_or, slice_get, nat_le, Bool, true, false, Option, Some, None, unwrap_or, IsSome, All, Contains, refl, sym, ap, subst, inl, inr, arith}
use Rattle.std.specs.Prelude.{MatchOption, IsSomeAnd}
use Rattle.std.proofs.lemmas.Bool.{and_parts, cases_lt}
use Rattle.std.proofs.lemmas.Bool.Decides.{nat_tests}
use Rattle.std.proofs.lemmas.Option.{slice_get_past}
use Rattle.std.proofs.lemmas.List.{length-map}
use Rattle.std.proofs.lemmas.List.Elements.{All-nil, All-cons, All-head, All-tail, All-append, All-map, All-contains, All-contains_itself, Contains-append_left, Contains-append_right}
use Rattle.text_table.specs.Table.{item_at}
use Rattle.wildcard_lang.specs.declared.piece.Piece.{Piece}
use Rattle.wildcard_lang.specs.Places.{ShowWider}
use Rattle.wildcard_lang.proofs.Laws.{widths-grow}
use Rattle.formula_tree.specs.Answers.{Answers, answer_of}
use Rattle.pattern_automata.specs.Closed.{rises_from}
use Rattle.policy_model.specs.declared.schema.KeyRule.{KeyRule}
use Rattle.policy_model.specs.declared.schema.Schema.{Schema}
use Rattle.policy_model.specs.declared.test.Slot.{Slot}
use Rattle.policy_model.specs.declared.test.Slot.TheVariants as slot
use Rattle.policy_model.specs.declared.test.Test.{Test}
use Rattle.policy_model.specs.declared.test.Test.TheVariants.{Principal, Action, Resource, Present, SomeMeets, SomeMeetsNone}
use Rattle.policy_model.specs.declared.value.Value.{Value}
use Rattle.policy_model.specs.Conds.{IsCondOf}
use Rattle.policy_model.specs.Soundness.{RuleIsSound, TestSuits}
use Rattle.set_operators.specs.declared.ask.KeyAsk.{KeyAsk}
use Rattle.set_operators.specs.declared.answer.KeyAnswer.{KeyAnswer}
use Rattle.set_operators.specs.Answers.{IsKeyAnswer}
use Rattle.set_operators.specs.Asks.{AnswerAll, AreValuesOf, AskHolds, AskIsOf, Asks}
use Rattle.set_operators.specs.Shown.{ShowsMember}
use Rattle.set_operators.specs.Wants.{ask_patterns, asks_patterns, rule_patterns, value_patterns}
use Rattle.slot_theory.specs.declared.outcome.SlotProof.{SlotProof}
use Rattle.slot_theory.specs.declared.outcome.SlotValue.TheVariants as value
use Rattle.slot_theory.specs.declared.question.Question.{Question}
use Rattle.slot_theory.specs.Slots.{Permits, ValueMeets, answered_patterns, ask_of, asked_by_schema, patterns_at, slot_of, test_at}
use Rattle.slot_theory.specs.Cores.{KeyShows, MemberShows, Shows, asks_of}
use Rattle.slot_theory.specs.Question.{IsCoreOf, IsOnKey, KeyShowsOf, ShowsOf, core_asks}
use Rattle.slot_theory.specs.Steps.{IsRight, IsWrong}
use Rattle.slot_theory.proofs.Answering.{So}
use Rattle.slot_theory.proofs.Products.{among-answered}
use Rattle.slot_theory.proofs.Rising.{core-count}
use Rattle.slot_theory.proofs.Stating.{rule-sound}

-- ---- a key's rule

-- what holds of an item that is there
pub of-item : {X : Type 0} (P : X → Type 0) (o : Option X) (x : X) → o ≡ Some x → MatchOption o ⊥ P → P x
of-item P o x e h = subst (λ o. MatchOption o ⊥ P) e h

-- ---- one test on a key

pub key-meets : (vs : List Value) (key : List ℕ) (t : Test) → slot_of t ≡ slot.Key key → ValueMeets (value.Values vs) t ≡ AskHolds vs (ask_of t)
key-meets vs key (Principal entry) on = absurd (cc)
key-meets vs key (Action pattern) on = absurd (cc)
key-meets vs key (Resource pattern) on = absurd (cc)
key-meets vs key (Present k) on = refl
key-meets vs key (SomeMeets k c) on = refl
key-meets vs key (SomeMeetsNone k cs) on = refl

same-rule : (schema : Schema) (key k : List ℕ) (rule : KeyRule) (P : KeyRule → Type 0) → item_at key schema.keys ≡ Some rule → slot.Key k ≡ slot.Key key → MatchOption (item_at k schema.keys) ⊥ P → P rule
same-rule schema key k rule P there on h =
    let same : k ≡ key = cc in
    of-item P (item_at k schema.keys) rule (ap (λ (x : List ℕ). item_at x schema.keys) same ∙ there) h

-- what a test asks that suits the schema is asked of values of the rule's kind
ask-suits : (schema : Schema) (key : List ℕ) (rule : KeyRule) (t : Test) → item_at key schema.keys ≡ Some rule → TestSuits schema t → slot_of t ≡ slot.Key key → AskIsOf rule.kind (ask_of t)
ask-suits schema key rule (Principal entry) there suits on = tt
ask-suits schema key rule (Action pattern) there suits on = tt
ask-suits schema key rule (Resource pattern) there suits on = tt
ask-suits schema key rule (Present k) there suits on = tt
ask-suits schema key rule (SomeMeets k c) there suits on = same-rule schema key k rule (λ (r : KeyRule). IsCondOf r.kind c) there on suits
ask-suits schema key rule (SomeMeetsNone k cs) there suits on = same-rule schema key k rule (λ (r : KeyRule). All (IsCondOf r.kind) cs) there on suits

-- ---- the tests of a core

module _ (tests : List Test) (path : Answers) (vs : List Value) (key : List ℕ) where
  abbrev holds : ℕ → Bool
  holds n = unwrap_or (answer_of path n) false

  abbrev Answered : KeyAsk × Bool → Type 0
  Answered a = So a.1 (AskHolds vs a.0)

  abbrev Right : ℕ → Type 0
  Right n = IsRight tests path (value.Values vs) n

  abbrev AreOn : List ℕ → Type 0
  AreOn core = All (λ n. slot_of (test_at tests n) ≡ slot.Key key) core

  pub keys-answer : (core : List ℕ) → AreOn core → All Right core → AnswerAll vs (asks_of tests path core)
  keys-answer core on right = All-map Answered (λ n. (ask_of (test_at tests n), holds n)) core (λ k d l.
      let n = get_or core k d in
      subst (So (holds n)) (key-meets vs key (test_at tests n) (on k d l)) (right k d l))

  pub keys-right : (core : List ℕ) → AreOn core → AnswerAll vs (asks_of tests path core) → All Right core
  keys-right [] on answers = All-nil Right
  keys-right (n ∷ ns) on answers =
      let here : slot_of (test_at tests n) ≡ slot.Key key = All-head (λ m. slot_of (test_at tests m) ≡ slot.Key key) n ns on in
      let first : Answered (ask_of (test_at tests n), holds n) = All-head Answered (ask_of (test_at tests n), holds n) (asks_of tests path ns) answers in
      All-cons Right n ns (subst (So (holds n)) (sym (key-meets vs key (test_at tests n) here)) first)
      (keys-right ns (All-tail (λ m. slot_of (test_at tests m) ≡ slot.Key key) n ns on) (All-tail Answered (ask_of (test_at tests n), holds n) (asks_of tests path ns) answers))

-- ---- the patterns

rule-asked : (schema : Schema) (s : Slot) (key : List ℕ) (rule : KeyRule) → s ≡ slot.Key key → item_at key schema.keys ≡ Some rule → asked_by_schema schema s ≡ rule_patterns rule ++ []
rule-asked schema s key rule on there = rw (on, there) refl

key-permits : (schema : Schema) (s : Slot) (key : List ℕ) (rule : KeyRule) (vs : List Value) → s ≡ slot.Key key → item_at key schema.keys ≡ Some rule → AreValuesOf rule vs → Permits schema s (value.Values vs)
key-permits schema s key rule vs on there are = rw (on, there) are

shows-key : (schema : Schema) (tests : List Test) (path : Answers) (core : List ℕ) (s : Slot) (key : List ℕ) (rule : KeyRule) (proof : SlotProof) → s ≡ slot.Key key → item_at key schema.keys ≡ Some rule →
    Shows schema tests path core s proof ≡ KeyShows rule (asks_of tests path core) core proof
shows-key schema tests path core s key rule proof on there = rw (on, there) refl

-- ---- the places of numbers that rise

rises-least : (xs : List ℕ) (a n j : ℕ) → rises_from a xs ≡ true → slice_get xs j ≡ Some n → nat_le a n ≡ true
rises-least [] a n zero r at = absurd (cc)
rises-least [] a n (suc j) r at = absurd (cc)
rises-least (x ∷ xs) a n zero r at =
    let both = and_parts (nat_le a x) (rises_from (x + 1) xs) r in
    let same : x ≡ n = cc in
    subst (λ (y : ℕ). nat_le a y ≡ true) same both.0
rises-least (x ∷ xs) a n (suc j) r at =
    let both = and_parts (nat_le a x) (rises_from (x + 1) xs) r in
    let least : nat_le (x + 1) n ≡ true = rises-least xs (x + 1) n j both.1 at in
    grind (arith, nat_tests, both.0, least)

-- no number stands twice
same-place : (xs : List ℕ) (a n i j : ℕ) → rises_from a xs ≡ true → slice_get xs i ≡ Some n → slice_get xs j ≡ Some n → i ≡ j
same-place [] a n zero j r one other = absurd (cc)
same-place [] a n (suc i) j r one other = absurd (cc)
same-place (x ∷ xs) a n zero zero r one other = refl
same-place (x ∷ xs) a n zero (suc j) r one other =
    let both = and_parts (nat_le a x) (rises_from (x + 1) xs) r in
    let same : x ≡ n = cc in
    let least : nat_le (x + 1) n ≡ true = rises-least xs (x + 1) n j both.1 other in
    absurd (grind (arith, nat_tests, same, least))
same-place (x ∷ xs) a n (suc i) zero r one other =
    let both = and_parts (nat_le a x) (rises_from (x + 1) xs) r in
    let same : x ≡ n = cc in
    let least : nat_le (x + 1) n ≡ true = rises-least xs (x + 1) n i both.1 one in
    absurd (grind (arith, nat_tests, same, least))
same-place (x ∷ xs) a n (suc i) (suc j) r one other =
    let both = and_parts (nat_le a x) (rises_from (x + 1) xs) r in
    ap suc (same-place xs (x + 1) n i j both.1 one other)

-- the test at an index of the core is the member where the ask of that index is
pub member-at : (rule : KeyRule) (asks : Asks) (core : List ℕ) (n i : ℕ) (set : List (List (List ℕ))) → rises_from 0 core ≡ true → slice_get core i ≡ Some n → MemberShows rule asks core n set → ShowsMember rule asks i set
member-at rule asks core n i set rises at h = subst (λ (k : ℕ). ShowsMember rule asks k set) (same-place core 0 n h.0 i rises h.1 at) h.2

contains-at : (core : List ℕ) (n k : ℕ) → slice_get core k ≡ Some n → Contains core n
contains-at [] n zero at = absurd (cc)
contains-at [] n (suc k) at = absurd (cc)
contains-at (x ∷ xs) n zero at = (zero, omega arith, cc)
contains-at (x ∷ xs) n (suc k) at = let rest = contains-at xs n k at in (suc rest.0, omega (arith, rest.1), rest.2)

-- an ask of which something is said is there
pub within-by : (P : KeyAsk × Bool → Type 0) (asks : Asks) (k : ℕ) → IsSomeAnd (slice_get asks k) P → k < length asks
within-by P asks k h =
    elim (cases_lt k (length asks)) [
      | inl g ↦ g
      | inr g ↦ let none : slice_get asks k ≡ None = slice_get_past asks k g in absurd (subst (λ (o : Option (KeyAsk × Bool)). IsSomeAnd o P) none h)
    ]

-- a number that isn't in the core is no member
pub no-member : (rule : KeyRule) (asks : Asks) (core : List ℕ) (n : ℕ) (set : List (List (List ℕ))) → (Contains core n → ⊥) → MemberShows rule asks core n set → ⊥
no-member rule asks core n set none h = none (contains-at core n h.0 h.1)

-- what a search for values comes to, by equal names of what it is asked
pub answer-at : (rule : KeyRule) (states : ℕ) (xs ys : Asks) (a b : KeyAnswer) → xs ≡ ys → a ≡ b → IsKeyAnswer rule xs states a → IsKeyAnswer rule ys states b
answer-at rule states xs ys a b same is h = subst (λ (x : KeyAnswer). IsKeyAnswer rule ys states x) is (subst (λ (asks : Asks). IsKeyAnswer rule asks states a) same h)

-- ---- a question on a key

module _ (q : Question) (rule : KeyRule) (core : List ℕ) (key : IsOnKey q rule) (is : IsCoreOf q core) where
  abbrev schema : Schema
  schema = q.schema.now

  abbrev tests : List Test
  tests = q.tests.now

  abbrev path : Answers
  path = q.path.now

  abbrev s : Slot
  s = q.slot.now

  on-key : All (λ n. slot_of (test_at tests n) ≡ slot.Key key.key) core
  on-key k d l = is.on_slot k d l ∙ key.slot

  pub key-sound : RuleIsSound rule
  key-sound = rule-sound schema.keys key.key rule q.askable.sound.rules key.there

  pub asks-suit : All (λ a. AskIsOf rule.kind a.0) (core_asks q core)
  asks-suit = All-map (λ (a : KeyAsk × Bool). AskIsOf rule.kind a.0) (λ n. (ask_of (test_at tests n), unwrap_or (answer_of path n) false)) core
      (λ k d l. let n = get_or core k d in ask-suits schema key.key rule (test_at tests n) key.there (q.askable.suit n (Action []) (is.within k d l)) (on-key k d l))

  pub asks-count : length (core_asks q core) ≡ length core
  asks-count = length-map core (λ n. (ask_of (test_at tests n), unwrap_or (answer_of path n) false))

  pub asks-few : length (core_asks q core) < 4294967296
  asks-few = omega (arith, asks-count, core-count tests path s core is, q.askable.count)

  pub shows-of : (proof : SlotProof) → ShowsOf q core proof ≡ KeyShowsOf q rule core proof
  shows-of proof = shows-key schema tests path core s key.key rule proof key.slot key.there

  pub index-within : (k : ℕ) (set : List (List (List ℕ))) → ShowsMember rule (core_asks q core) k set → k < length core
  index-within k set h = omega (arith, asks-count, within-by (λ a. a.1 ≡ true) (core_asks q core) k h.wanted)

  pub key-shown : (proof : SlotProof) → KeyShowsOf q rule core proof → ShowsOf q core proof
  key-shown proof h = subst (λ (X : Type 0). X) (sym (shows-of proof)) h

  pub key-permitted : (vs : List Value) → AreValuesOf rule vs → Permits schema s (value.Values vs)
  key-permitted vs are = key-permits schema s key.key rule vs key.slot key.there are

  pub key-new : (vs : List Value) (n : ℕ) → AnswerAll vs (core_asks q core) → IsWrong tests path s (value.Values vs) n → Contains core n → ⊥
  key-new vs n answers wrong among =
      wrong.wrong (All-contains (IsRight tests path (value.Values vs)) core n (keys-right tests path vs key.key core on-key answers) among)

  abbrev all : List (List Piece)
  all = patterns_at schema tests path s

  asked-among : (ns : List ℕ) → All (λ n. n < length tests) ns → All (λ n. IsSome (answer_of path n)) ns → All (λ n. slot_of (test_at tests n) ≡ s) ns → All (Contains all) (asks_patterns (asks_of tests path ns))
  asked-among [] within answered on = All-nil (Contains all)
  asked-among (n ∷ ns) within answered on =
      let own = ask_patterns (ask_of (test_at tests n)) in
      let same : 0 + n ≡ n = omega arith in
      let some : IsSome (answer_of path n) = All-head (λ m. IsSome (answer_of path m)) n ns answered in
      let first : All (Contains all) own = λ k d l.
      Contains-append_left (answered_patterns tests path s 0) (asked_by_schema schema s) (get_or own k d) (among-answered path s (get_or own k d) tests 0 n (All-head (λ m. m < length tests) n ns within) (rw same some) (All-head (λ m. slot_of (test_at tests m) ≡ s) n ns on)
      (Contains-append_right _ own (get_or own k d) (All-contains_itself own k d l))) in
      All-append (Contains all) own (asks_patterns (asks_of tests path ns)) first
      (asked-among ns (All-tail (λ m. m < length tests) n ns within) (All-tail (λ m. IsSome (answer_of path m)) n ns answered) (All-tail (λ m. slot_of (test_at tests m) ≡ s) n ns on))

  rule-among : All (Contains all) (rule_patterns rule)
  rule-among k d l =
      let own = rule_patterns rule in
      Contains-append_right (answered_patterns tests path s 0) (asked_by_schema schema s) (get_or own k d)
      (subst (λ (ps : List (List Piece)). Contains ps (get_or own k d)) (sym (rule-asked schema s key.key rule key.slot key.there)) (Contains-append_left own [] (get_or own k d) (All-contains_itself own k d l)))

  pub key-wider : (states : ℕ) (texts : List (List ℕ)) → ShowWider (value_patterns rule (core_asks q core)) states texts → ShowWider all states texts
  key-wider states texts wide =
      widths-grow (value_patterns rule (core_asks q core)) all states texts (All-append (Contains all) (asks_patterns (core_asks q core)) (rule_patterns rule) (asked-among core is.within is.answered is.on_slot) rule-among) wide

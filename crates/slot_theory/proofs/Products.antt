-- What a product for a core says of the slot: its patterns are among the slot's, a text that meets what the core wants is a
-- value that the schema permits, and a test that this value answers otherwise isn't in the core.
use Rattle.std.proofs.Common.{◌≡◌, ℕ, zero, suc, ◌+◌, ◌<◌, List, [], ◌∷◌, ◌++◌, length, map, get_or, Bool, true, false, ◌&&◌, is_some, Option, Some, None, unwrap_or, if◌then◌else◌, IsSome, All, Any, Contains, refl, sym, subst, ◌⊎◌, inl, inr, arith}
use Rattle.std.specs.Option.{is_none, option_to_list}
use Rattle.std.proofs.lemmas.List.Elements.{All-cons, All-append, All-map, All-contains, All-filter, filter_passes, Contains-append_left, Contains-append_right, All-contains_itself}
use Rattle.wildcard_lang.specs.declared.piece.Piece.{Piece}
use Rattle.wildcard_lang.specs.Places.{ShowWider}
use Rattle.wildcard_lang.specs.Text.{IsText}
use Rattle.wildcard_lang.proofs.Laws.{widths-grow}
use Rattle.formula_tree.specs.Answers.{Answers, answer_of}
use Rattle.pattern_automata.specs.Closed.{Meets}
use Rattle.pattern_automata.specs.Answer.{IsProduct}
use Rattle.pattern_automata.specs.declared.outcome.Product.{Product}
use Rattle.policy_model.specs.declared.principal.PrincipalKind.{PrincipalKind}
use Rattle.policy_model.specs.declared.principal.PrincipalKind.TheVariants.{Aws, Service, Federated, CanonicalUser}
use Rattle.policy_model.specs.declared.principal.Entry.TheVariants as entry
use Rattle.policy_model.specs.declared.schema.Schema.{Schema}
use Rattle.policy_model.specs.declared.schema.Shapes.{Shapes}
use Rattle.policy_model.specs.declared.test.Slot.{Slot}
use Rattle.policy_model.specs.declared.test.Slot.TheVariants as slot
use Rattle.policy_model.specs.declared.test.Test.{Test}
use Rattle.policy_model.specs.declared.test.Test.TheVariants.{Principal, Action, Resource, Present, SomeMeets, SomeMeetsNone}
use Rattle.policy_model.specs.Requests.{IsWord, shape_of}
use Rattle.slot_theory.specs.declared.outcome.SlotValue.{SlotValue}
use Rattle.slot_theory.specs.declared.outcome.SlotValue.TheVariants as value
use Rattle.slot_theory.specs.declared.question.Question.{Question}
use Rattle.slot_theory.specs.declared.steps.Attempt.{Attempt}
use Rattle.slot_theory.specs.declared.steps.Attempt.TheVariants as attempt
use Rattle.set_operators.specs.Wants.{ask_patterns}
use Rattle.slot_theory.specs.Slots.{HasPattern, IsWordSlot, Permits, answered_patterns, ask_of, test_patterns, fixed_at, id_shapes, is_on, pattern_of, patterns_at, asked_by_schema, shape_at, slot_of, some_word, test_at}
use Rattle.slot_theory.specs.Wants.{wanted_clauses, wanted_patterns}
use Rattle.slot_theory.specs.declared.outcome.SlotProof.{SlotProof}
use Rattle.slot_theory.specs.Cores.{IsContradicted, IsCore, Shows, WordShows, open_tests}
use Rattle.slot_theory.specs.Steps.{IsAttempt, IsRight, IsTried, IsWrong}
use Rattle.slot_theory.proofs.Wanting.{met-so, met-word, own_pattern, same-patterns}
use Rattle.slot_theory.proofs.Wording.{slot-on}
use Rattle.slot_theory.specs.Question.{AreWanted, IsCoreOf}
use Rattle.slot_theory.proofs.Answering.{none-is, open-right, words-right}
use Rattle.slot_theory.proofs.Rising.{core-count, filter-few}

-- ---- the patterns of some tests are among those of the slot

among-more : (p : List Piece) (b : Bool) (qs rest : List (List Piece)) → Contains rest p → Contains (if b then qs ++ rest else rest) p
among-more p true qs rest c = Contains-append_right qs rest p c
among-more p false qs rest c = c

among-first : (p : List Piece) (b : Bool) (qs rest : List (List Piece)) → b ≡ true → Contains qs p → Contains (if b then qs ++ rest else rest) p
among-first p true qs rest e c = Contains-append_left qs rest p c
among-first p false qs rest e c = absurd (cc)

some-is_some : (o : Option Bool) → IsSome o → is_some o ≡ true
some-is_some None h = absurd (cc)
some-is_some (Some b) h = refl

has-own : (o : Option (List Piece)) → IsSome o → Contains (option_to_list o) (unwrap_or o [])
has-own None h = absurd (cc)
has-own (Some p) h = (zero, omega arith, refl)

-- the pattern of a test that has one is among the test's
own-among : (t : Test) → IsSome (pattern_of t) → Contains (test_patterns t) (own_pattern t)
own-among t h = Contains-append_left (option_to_list (pattern_of t)) (ask_patterns (ask_of t)) (own_pattern t) (has-own (pattern_of t) h)

word-pattern : (s : Slot) (t : Test) → IsWordSlot s → slot_of t ≡ s → IsSome (pattern_of t)
word-pattern s (Principal entry) h e = absurd (subst IsWordSlot (sym e) h)
word-pattern s (Action pattern) h e = refl
word-pattern s (Resource pattern) h e = refl
word-pattern s (Present key) h e = absurd (subst IsWordSlot (sym e) h)
word-pattern s (SomeMeets key c) h e = absurd (subst IsWordSlot (sym e) h)
word-pattern s (SomeMeetsNone key cs) h e = absurd (subst IsWordSlot (sym e) h)

open-pattern : (k : PrincipalKind) (t : Test) → slot_of t ≡ slot.Principal → fixed_at k t ≡ None → IsSome (pattern_of t)
open-pattern k (Principal entry.All) on e = absurd (cc)
open-pattern k (Principal (entry.Kind kind)) on e = absurd (cc)
open-pattern k (Principal (entry.Account account)) on e = refl
open-pattern k (Principal (entry.Exact kind id)) on e = refl
open-pattern k (Action pattern) on e = absurd (cc)
open-pattern k (Resource pattern) on e = absurd (cc)
open-pattern k (Present key) on e = absurd (cc)
open-pattern k (SomeMeets key c) on e = absurd (cc)
open-pattern k (SomeMeetsNone key cs) on e = absurd (cc)

-- each test of a core on words has a pattern, and each of a core on principals that has no fixed answer for a kind
pub words-have : (tests : List Test) (s : Slot) (core : List ℕ) → IsWordSlot s → All (λ n. slot_of (test_at tests n) ≡ s) core → All (HasPattern tests) core
words-have tests s core word on k d l = word-pattern s (test_at tests (get_or core k d)) word (on k d l)

pub open-have : (tests : List Test) (kind : PrincipalKind) (core : List ℕ) → All (λ n. slot_of (test_at tests n) ≡ slot.Principal) core → All (HasPattern tests) (open_tests tests kind core)
open-have tests kind core on k d l =
    let is_free : ℕ → Bool = λ n. is_none (fixed_at kind (test_at tests n)) in
    open-pattern kind (test_at tests (get_or (open_tests tests kind core) k d)) (All-filter is_free (λ n. slot_of (test_at tests n) ≡ slot.Principal) core on k d l) (none-is _ (filter_passes is_free core k d l))

-- the patterns of an answered test of the slot are among the slot's
pub among-answered : (path : Answers) (s : Slot) (p : List Piece) (tests : List Test) (i k : ℕ) → k < length tests → IsSome (answer_of path (i + k)) → slot_of (test_at tests k) ≡ s → Contains (test_patterns (test_at tests k)) p → Contains (answered_patterns tests path s i) p
among-answered path s p [] i k l a on has = absurd (omega arith)
among-answered path s p (t ∷ ts) i zero l a on has =
    let here : i + 0 ≡ i = omega arith in
    let some : is_some (answer_of path i) ≡ true = some-is_some _ (rw here at a) in
    among-first p (is_on s t && is_some (answer_of path i)) (test_patterns t) (answered_patterns ts path s (i + 1)) (rw (slot-on s t on, some) refl) has
among-answered path s p (t ∷ ts) i (suc k) l a on has =
    let here : i + suc k ≡ i + 1 + k = omega arith in
    among-more p (is_on s t && is_some (answer_of path i)) (test_patterns t) (answered_patterns ts path s (i + 1)) (among-answered path s p ts (i + 1) k (omega arith) (rw here at a) on has)

-- the tests of these numbers are answered, on the slot, and have patterns
record AreAsked (tests : List Test) (path : Answers) (s : Slot) (numbers : List ℕ) : Type 0 where
  pub within : All (λ n. n < length tests) numbers
  pub answered : All (λ n. IsSome (answer_of path n)) numbers
  pub on_slot : All (λ n. slot_of (test_at tests n) ≡ s) numbers
  pub patterns : All (HasPattern tests) numbers

widths : (schema : Schema) (tests : List Test) (path : Answers) (s : Slot) (numbers : List ℕ) (shape : Option (List Piece)) (states : ℕ) (texts : List (List ℕ)) → AreAsked tests path s numbers → Contains (asked_by_schema schema s) some_word → All (Contains (asked_by_schema schema s)) (option_to_list shape) →
    ShowWider (wanted_patterns tests numbers shape) states texts → ShowWider (patterns_at schema tests path s) states texts
widths schema tests path s numbers shape states texts asked some shaped wide =
    let own = answered_patterns tests path s 0 in
    let rest = asked_by_schema schema s in
    let all = patterns_at schema tests path s in
    let tested : All (Contains all) (map (λ n. own_pattern (test_at tests n)) numbers) = All-map (Contains all) (λ n. own_pattern (test_at tests n)) numbers (λ k d l.
    let n = get_or numbers k d in
    let same : 0 + n ≡ n = omega arith in
    Contains-append_left own rest (own_pattern (test_at tests n)) (among-answered path s (own_pattern (test_at tests n)) tests 0 n (asked.within k d l) (rw same (asked.answered k d l)) (asked.on_slot k d l) (own-among (test_at tests n) (asked.patterns k d l)))) in
    let behind : All (Contains all) (some_word ∷ option_to_list shape) =
    All-cons (Contains all) some_word (option_to_list shape) (Contains-append_right own rest some_word some) (λ k d l. Contains-append_right own rest _ (shaped k d l)) in
    let wanted : All (Contains all) (wanted_patterns tests numbers shape) = subst (λ (ps : List (List Piece)). All (Contains all) ps) (sym (same-patterns tests path shape numbers asked.patterns)) (All-append (Contains all) (map (λ n. own_pattern (test_at tests n)) numbers) (some_word ∷ option_to_list shape) tested behind) in
    widths-grow (wanted_patterns tests numbers shape) all states texts wanted wide

-- ---- the shapes

module _ (shapes : Shapes) where
  abbrev first : List (List Piece)
  first = option_to_list shapes.aws

  abbrev second : List (List Piece)
  second = option_to_list shapes.service

  abbrev third : List (List Piece)
  third = option_to_list shapes.federated

  abbrev fourth : List (List Piece)
  fourth = option_to_list shapes.canonical_user

  kind-shape : (k : PrincipalKind) → All (Contains (id_shapes shapes)) (option_to_list (shape_of shapes k))
  kind-shape Aws i d l = Contains-append_left first (second ++ (third ++ fourth)) _ (All-contains_itself first i d l)
  kind-shape Service i d l = Contains-append_right first (second ++ (third ++ fourth)) _ (Contains-append_left second (third ++ fourth) _ (All-contains_itself second i d l))
  kind-shape Federated i d l = Contains-append_right first (second ++ (third ++ fourth)) _ (Contains-append_right second (third ++ fourth) _ (Contains-append_left third fourth _ (All-contains_itself third i d l)))
  kind-shape CanonicalUser i d l = Contains-append_right first (second ++ (third ++ fourth)) _ (Contains-append_right second (third ++ fourth) _ (Contains-append_right third fourth _ (All-contains_itself fourth i d l)))

-- what is behind `?*` is asked too
behind_some : (qs ps : List (List Piece)) → All (Contains qs) ps → All (Contains (some_word ∷ qs)) ps
behind_some qs ps all k d l = Contains-append_right (some_word ∷ []) qs _ (all k d l)

word-some : (schema : Schema) (s : Slot) → IsWordSlot s → Contains (asked_by_schema schema s) some_word
word-some schema slot.Principal h = absurd h
word-some schema slot.Action h = (zero, omega arith, refl)
word-some schema slot.Resource h = (zero, omega arith, refl)
word-some schema (slot.Key name) h = absurd h

word-shape : (schema : Schema) (s : Slot) → IsWordSlot s → All (Contains (asked_by_schema schema s)) (option_to_list (shape_at schema s))
word-shape schema slot.Principal h = absurd h
word-shape schema slot.Action h = let own = option_to_list schema.shapes.action in behind_some own own (All-contains_itself own)
word-shape schema slot.Resource h = let own = option_to_list schema.shapes.resource in behind_some own own (All-contains_itself own)
word-shape schema (slot.Key name) h = absurd h

permits-word : (schema : Schema) (s : Slot) (w : List ℕ) → IsWordSlot s → IsWord (shape_at schema s) w → Permits schema s (value.Word w)
permits-word schema slot.Principal w h is = absurd h
permits-word schema slot.Action w h is = is
permits-word schema slot.Resource w h is = is
permits-word schema (slot.Key name) w h is = absurd h

pub one-of-words : (s : Slot) → (s ≡ slot.Action) ⊎ (s ≡ slot.Resource) → IsWordSlot s
one-of-words s h = elim h [
  | inl e ↦ rw e tt
  | inr e ↦ rw e tt
]

-- what shows that no value of a word's slot answers is what shows that no word does
pub shows-word : (schema : Schema) (tests : List Test) (path : Answers) (core : List ℕ) (s : Slot) (p : SlotProof) → IsWordSlot s → Shows schema tests path core s p ≡ WordShows (shape_at schema s) tests path core p
shows-word schema tests path core slot.Principal p h = absurd h
shows-word schema tests path core slot.Action p h = refl
shows-word schema tests path core slot.Resource p h = refl
shows-word schema tests path core (slot.Key name) p h = absurd h

-- ---- a product for a core

-- what a product comes to, by equal names of what it is asked
pub product-at : (tests : List Test) (path : Answers) (states : ℕ) (ns ms : List ℕ) (a b : Option (List Piece)) (p q : Product) → ns ≡ ms → a ≡ b → p ≡ q →
    IsProduct (wanted_patterns tests ns a) (wanted_clauses path ns a 0) states p → IsProduct (wanted_patterns tests ms b) (wanted_clauses path ms b 0) states q
product-at tests path states ns ms a b p q same shape is h =
    subst (λ (x : Product). IsProduct (wanted_patterns tests ms b) (wanted_clauses path ms b 0) states x) is
    (subst (λ (x : Option (List Piece)). IsProduct (wanted_patterns tests ms x) (wanted_clauses path ms x 0) states p) shape
    (subst (λ (xs : List ℕ). IsProduct (wanted_patterns tests xs a) (wanted_clauses path xs a 0) states p) same h))

-- a value that the schema permits and that answers the core, tried on all answered tests of the slot
pub tried-attempt : (q : Question) (core : List ℕ) (v : SlotValue) (a : Attempt) → Permits q.schema.now q.slot.now v → ((n : ℕ) → IsWrong q.tests.now q.path.now q.slot.now v n → Contains core n → ⊥) → IsTried q v a → IsAttempt q core a
tried-attempt q core v (attempt.Empty proof) permits new is = absurd is
tried-attempt q core v (attempt.Full texts) permits new is = absurd is
tried-attempt q core v (attempt.Right w) permits new is = rw is.0 (permits, is.1)
tried-attempt q core v (attempt.Wrong n) permits new is = (is.on, new n is)

module _ (q : Question) (core : List ℕ) where
  abbrev schema : Schema
  schema = q.schema.now

  abbrev tests : List Test
  tests = q.tests.now

  abbrev path : Answers
  path = q.path.now

  abbrev s : Slot
  s = q.slot.now

  module _ (word : IsWordSlot s) (is : IsCoreOf q core) where
    abbrev shape : Option (List Piece)
    shape = shape_at schema s

    pub word-wanted : AreWanted q core
    word-wanted = record { count = core-count tests path s core is; within = is.within; patterns = words-have tests s core word is.on_slot }

    pub word-wider : (states : ℕ) (texts : List (List ℕ)) → ShowWider (wanted_patterns tests core shape) states texts → ShowWider (patterns_at schema tests path s) states texts
    word-wider states texts =
        widths schema tests path s core shape states texts (record { within = is.within; answered = is.answered; on_slot = is.on_slot; patterns = words-have tests s core word is.on_slot }) (word-some schema s word)
        (word-shape schema s word)

    pub word-permitted : (w : List ℕ) → Meets (wanted_patterns tests core shape) (wanted_clauses path core shape 0) w × IsText w → Permits schema s (value.Word w)
    word-permitted w met = permits-word schema s w word (met-word tests path shape core (words-have tests s core word is.on_slot) w met.1 met.0)

    pub word-new : (w : List ℕ) (n : ℕ) → Meets (wanted_patterns tests core shape) (wanted_clauses path core shape 0) w → IsWrong tests path s (value.Word w) n → Contains core n → ⊥
    word-new w n met wrong among =
        wrong.wrong (All-contains (IsRight tests path (value.Word w)) core n (words-right tests path core s w word is.on_slot (met-so tests path shape core (words-have tests s core word is.on_slot) w met)) among)

  module _ (k : PrincipalKind) (on : s ≡ slot.Principal) (core_is : IsCoreOf q core) where
    is : IsCore tests path core slot.Principal
    is = subst (λ (x : Slot). IsCore tests path core x) on core_is

    abbrev open_numbers : List ℕ
    open_numbers = open_tests tests k core

    abbrev id_shape : Option (List Piece)
    id_shape = shape_of schema.shapes k

    abbrev is_open : ℕ → Bool
    is_open n = is_none (fixed_at k (test_at tests n))

    open-within : All (λ n. n < length tests) open_numbers
    open-within = All-filter is_open (λ n. n < length tests) core is.within

    pub kind-wanted : AreWanted q open_numbers
    kind-wanted = record {
      count = omega (arith, filter-few is_open core, core-count tests path slot.Principal core is);
      within = open-within;
      patterns = open-have tests k core is.on_slot;
    }

    pub kind-wider : (states : ℕ) (texts : List (List ℕ)) → ShowWider (wanted_patterns tests open_numbers id_shape) states texts → ShowWider (patterns_at schema tests path s) states texts
    kind-wider states texts wide = subst (λ (x : Slot). ShowWider (patterns_at schema tests path x) states texts) (sym on) (widths schema tests path slot.Principal open_numbers id_shape states texts (record {
      within = open-within;
      answered = All-filter is_open (λ n. IsSome (answer_of path n)) core is.answered;
      on_slot = All-filter is_open (λ n. slot_of (test_at tests n) ≡ slot.Principal) core is.on_slot;
      patterns = open-have tests k core is.on_slot;
    }) (zero, omega arith, refl) (behind_some (id_shapes schema.shapes) (option_to_list id_shape) (kind-shape schema.shapes k)) wide)

    pub id-permitted : (id : List ℕ) → Meets (wanted_patterns tests open_numbers id_shape) (wanted_clauses path open_numbers id_shape 0) id × IsText id → Permits schema s (value.Principal k id)
    id-permitted id met = subst (λ (x : Slot). Permits schema x (value.Principal k id)) (sym on) (met-word tests path id_shape open_numbers (open-have tests k core is.on_slot) id met.1 met.0)

    pub id-new : (id : List ℕ) (n : ℕ) → (Any (IsContradicted tests path k) core → ⊥) → Meets (wanted_patterns tests open_numbers id_shape) (wanted_clauses path open_numbers id_shape 0) id → IsWrong tests path s (value.Principal k id) n → Contains core n → ⊥
    id-new id n none met wrong among =
        wrong.wrong (All-contains (IsRight tests path (value.Principal k id)) core n (open-right tests path core k id is.on_slot none (met-so tests path id_shape open_numbers (open-have tests k core is.on_slot) id met)) among)

-- The request that is joined from slot values is valid and answers the path.
use Rattle.std.proofs.Common.{◌≡◌, ◌≢◌, ℕ, zero, suc, Bool, true, false, List, [], ◌∷◌, slice_get, Option, Some, None, All, Contains, MatchBool, refl, sym, ap, subst, inl, inr, ◌⊎◌, ◌∙◌, arith}
use Rattle.std.specs.Prelude.{MatchOption, unwrap_or}
use Rattle.std.specs.List.{Any}
use Rattle.std.specs.Ordering.{nat_cmp, eq_by_cmp}
use Rattle.std.specs.Cmp.Lexicographic.{slice_cmp}
use Rattle.std.specs.Str.{bytes_eq}
use Rattle.std.proofs.lemmas.Bool.{both_ways, cases_Bool}
use Rattle.std.proofs.lemmas.Slice.Eq.{bytes_eq-Decides}
use Rattle.std.proofs.lemmas.Map.Text.{is_eq-slice_cmp}
use Rattle.std.proofs.lemmas.Map.Views.{Contains-from_lookup}
use Rattle.std.proofs.lemmas.List.Elements.{All-nil, All-cons, All-head, All-tail, All-contains}
use Rattle.formula_tree.specs.Answers.{Answers, answer_of}
use Rattle.policy_model.specs.declared.principal.PrincipalKind.{PrincipalKind}
use Rattle.policy_model.specs.declared.principal.PrincipalKind.TheVariants.{Aws}
use Rattle.policy_model.specs.declared.schema.Schema.{Schema}
use Rattle.policy_model.specs.declared.test.Slot.{Slot}
use Rattle.policy_model.specs.declared.test.Slot.TheVariants as slot
use Rattle.policy_model.specs.declared.test.Test.{Test}
use Rattle.policy_model.specs.declared.test.Test.TheVariants.{Principal, Action, Resource, Present, SomeMeets, SomeMeetsNone}
use Rattle.policy_model.specs.declared.schema.KeyRule.{KeyRule}
use Rattle.policy_model.specs.declared.value.Value.{Value}
use Rattle.text_table.specs.Table.{Entries, IsInOrder, item_at}
use Rattle.policy_model.specs.Conds.{CondMeets, MeetsSome}
use Rattle.policy_model.specs.Conditions.{values_at}
use Rattle.policy_model.specs.Requests.{IsValid}
use Rattle.policy_model.specs.Soundness.{RuleIsSound, SchemaIsSound}
use Rattle.policy_model.specs.Tests.{TestHolds}
use Rattle.set_operators.specs.Asks.{AreValuesOf}
use Rattle.slot_theory.specs.declared.outcome.SlotValue.{SlotValue}
use Rattle.slot_theory.specs.declared.outcome.SlotValue.TheVariants as value
use Rattle.slot_theory.specs.Cores.{HasTest}
use Rattle.slot_theory.specs.Slots.{AnswersSlot, IsSlotValue, Permits, slot_of}
use Rattle.slot_theory.specs.Possible.{AnswersPath}
use Rattle.slot_theory.specs.Unasked.{stated_values, stated_word}
use Rattle.slot_theory.proofs.Laws.{at-test, stated-is-word, values-permitted}
use Rattle.request_build.specs.Built.{AreSlotValues, KeysAreStated}
use Rattle.request_build.specs.Taken.{action_in, action_or, context_in, joined_request, key_values, principal_in, principal_or, resource_in, resource_or, values_at_key}
use Rattle.request_build.proofs.Filling.{Rule, all-among, context-valid, has-given, own-item}

abbrev Values : Type 0
Values = List (Slot × SlotValue)

-- ---- the tests that a path answers

-- the path answers a test of the slot of each test that it answers
pub asked-by : (tests : List Test) (path : Answers) (n : ℕ) (b : Bool) (t : Test) → answer_of path n ≡ Some b → slice_get tests n ≡ Some t → HasTest tests path (slot_of t)
asked-by tests path n b t answered at = record { number = n; is = record { answered = rw answered refl; on_slot = ap slot_of (at-test tests n t at) } }

-- ---- what is taken for a slot

-- the value of the slot among these, or the stated one where the slot has none
abbrev IsTaken : Values → Slot → SlotValue → SlotValue → Type 0
IsTaken values s stated v = Contains values (s, v) ⊎ ((v ≡ stated) × All (λ (p : Slot × SlotValue). p.0 ≢ s) values)

taken-first : (s : Slot) (stated v : SlotValue) (ps : Values) → IsTaken ((s, v) ∷ ps) s stated v
taken-first s stated v ps = inl (zero, omega arith, refl)

taken-later : (s other : Slot) (stated v u : SlotValue) (ps : Values) → other ≢ s → IsTaken ps s stated v → IsTaken ((other, u) ∷ ps) s stated v
taken-later s other stated v u ps differs (inl among) = inl (suc among.0, omega (arith, among.1), among.2)
taken-later s other stated v u ps differs (inr (same, none)) = inr (same, All-cons (λ (p : Slot × SlotValue). p.0 ≢ s) (other, u) ps differs none)

taken-none : (s : Slot) (stated : SlotValue) → IsTaken [] s stated stated
taken-none s stated = inr (refl, All-nil (λ (p : Slot × SlotValue). p.0 ≢ s))

-- ---- what is taken for each slot

abbrev principal_of : PrincipalKind × List ℕ → SlotValue
principal_of p = value.Principal p.0 p.1

module _ (schema : Schema) where
  abbrev IsPermitted : Slot × SlotValue → Type 0
  IsPermitted p = Permits schema p.0 p.1

  -- the stated value of each slot that isn't a key
  abbrev stated_principal : SlotValue
  stated_principal = value.Principal Aws (stated_word schema.shapes.aws)

  abbrev stated_action : SlotValue
  stated_action = value.Word (stated_word schema.shapes.action)

  abbrev stated_resource : SlotValue
  stated_resource = value.Word (stated_word schema.shapes.resource)

  principal-step : (s : Slot) (v stated : SlotValue) (ps : Values) (rest : PrincipalKind × List ℕ) → Permits schema s v → IsTaken ps slot.Principal stated (principal_of rest) → IsTaken ((s, v) ∷ ps) slot.Principal stated (principal_of (principal_or s v rest))
  principal-step slot.Principal (value.Principal kind id) stated ps rest h taken = taken-first slot.Principal stated (value.Principal kind id) ps
  principal-step slot.Principal (value.Word t) stated ps rest h taken = absurd h
  principal-step slot.Principal (value.Values vs) stated ps rest h taken = absurd h
  principal-step slot.Action v stated ps rest h taken = taken-later slot.Principal slot.Action stated (principal_of rest) v ps (λ e. absurd (cc)) taken
  principal-step slot.Resource v stated ps rest h taken = taken-later slot.Principal slot.Resource stated (principal_of rest) v ps (λ e. absurd (cc)) taken
  principal-step (slot.Key name) v stated ps rest h taken = taken-later slot.Principal (slot.Key name) stated (principal_of rest) v ps (λ e. absurd (cc)) taken

  action-step : (s : Slot) (v stated : SlotValue) (ps : Values) (rest : List ℕ) → Permits schema s v → IsTaken ps slot.Action stated (value.Word rest) → IsTaken ((s, v) ∷ ps) slot.Action stated (value.Word (action_or s v rest))
  action-step slot.Action (value.Word t) stated ps rest h taken = taken-first slot.Action stated (value.Word t) ps
  action-step slot.Action (value.Principal kind id) stated ps rest h taken = absurd h
  action-step slot.Action (value.Values vs) stated ps rest h taken = absurd h
  action-step slot.Principal v stated ps rest h taken = taken-later slot.Action slot.Principal stated (value.Word rest) v ps (λ e. absurd (cc)) taken
  action-step slot.Resource v stated ps rest h taken = taken-later slot.Action slot.Resource stated (value.Word rest) v ps (λ e. absurd (cc)) taken
  action-step (slot.Key name) v stated ps rest h taken = taken-later slot.Action (slot.Key name) stated (value.Word rest) v ps (λ e. absurd (cc)) taken

  resource-step : (s : Slot) (v stated : SlotValue) (ps : Values) (rest : List ℕ) → Permits schema s v → IsTaken ps slot.Resource stated (value.Word rest) → IsTaken ((s, v) ∷ ps) slot.Resource stated (value.Word (resource_or s v rest))
  resource-step slot.Resource (value.Word t) stated ps rest h taken = taken-first slot.Resource stated (value.Word t) ps
  resource-step slot.Resource (value.Principal kind id) stated ps rest h taken = absurd h
  resource-step slot.Resource (value.Values vs) stated ps rest h taken = absurd h
  resource-step slot.Principal v stated ps rest h taken = taken-later slot.Resource slot.Principal stated (value.Word rest) v ps (λ e. absurd (cc)) taken
  resource-step slot.Action v stated ps rest h taken = taken-later slot.Resource slot.Action stated (value.Word rest) v ps (λ e. absurd (cc)) taken
  resource-step (slot.Key name) v stated ps rest h taken = taken-later slot.Resource (slot.Key name) stated (value.Word rest) v ps (λ e. absurd (cc)) taken

  key-step : (key : List ℕ) (s : Slot) (v stated : SlotValue) (ps : Values) (rest : List Value) → Permits schema s v → IsTaken ps (slot.Key key) stated (value.Values rest) → IsTaken ((s, v) ∷ ps) (slot.Key key) stated (value.Values (unwrap_or (values_at_key key s v) rest))
  key-step key slot.Principal v stated ps rest h taken = taken-later (slot.Key key) slot.Principal stated (value.Values rest) v ps (λ e. absurd (cc)) taken
  key-step key slot.Action v stated ps rest h taken = taken-later (slot.Key key) slot.Action stated (value.Values rest) v ps (λ e. absurd (cc)) taken
  key-step key slot.Resource v stated ps rest h taken = taken-later (slot.Key key) slot.Resource stated (value.Values rest) v ps (λ e. absurd (cc)) taken
  key-step key (slot.Key name) (value.Principal kind id) stated ps rest h taken = absurd h
  key-step key (slot.Key name) (value.Word t) stated ps rest h taken = absurd h
  key-step key (slot.Key name) (value.Values vs) stated ps rest h taken =
      elim (cases_Bool (bytes_eq name key)) [
        | inl here ↦
            let same : name ≡ key = (bytes_eq-Decides name key).0 here in
            rw (here, same) (taken-first (slot.Key key) stated (value.Values vs) ps)
        | inr other ↦
            let differs : slot.Key name ≢ slot.Key key = λ e. let same : name ≡ key = cc in both_ways (bytes_eq name key) other ((bytes_eq-Decides name key).1 same) in
            rw other (taken-later (slot.Key key) (slot.Key name) stated (value.Values rest) (value.Values vs) ps differs taken)
      ]

  principal-taken : (values : Values) → All IsPermitted values → IsTaken values slot.Principal stated_principal (principal_of (principal_in schema.shapes values))
  principal-taken [] all = taken-none slot.Principal stated_principal
  principal-taken (p ∷ ps) all = principal-step p.0 p.1 stated_principal ps (principal_in schema.shapes ps) (All-head IsPermitted p ps all) (principal-taken ps (All-tail IsPermitted p ps all))

  action-taken : (values : Values) → All IsPermitted values → IsTaken values slot.Action stated_action (value.Word (action_in schema.shapes values))
  action-taken [] all = taken-none slot.Action stated_action
  action-taken (p ∷ ps) all = action-step p.0 p.1 stated_action ps (action_in schema.shapes ps) (All-head IsPermitted p ps all) (action-taken ps (All-tail IsPermitted p ps all))

  resource-taken : (values : Values) → All IsPermitted values → IsTaken values slot.Resource stated_resource (value.Word (resource_in schema.shapes values))
  resource-taken [] all = taken-none slot.Resource stated_resource
  resource-taken (p ∷ ps) all = resource-step p.0 p.1 stated_resource ps (resource_in schema.shapes ps) (All-head IsPermitted p ps all) (resource-taken ps (All-tail IsPermitted p ps all))

  key-taken : (key : List ℕ) (rule : KeyRule) (values : Values) → All IsPermitted values → IsTaken values (slot.Key key) (value.Values (stated_values rule)) (value.Values (key_values values key rule))
  key-taken key rule [] all = taken-none (slot.Key key) (value.Values (stated_values rule))
  key-taken key rule (p ∷ ps) all =
      key-step key p.0 p.1 (value.Values (stated_values rule)) ps (key_values ps key rule) (All-head IsPermitted p ps all) (key-taken key rule ps (All-tail IsPermitted p ps all))

  -- ---- the joined request is valid

  -- what is taken is permitted, where the stated value is
  taken-permitted : (values : Values) (s : Slot) (stated v : SlotValue) → All IsPermitted values → IsTaken values s stated v → Permits schema s stated → Permits schema s v
  taken-permitted values s stated v all (inl among) permitted = All-contains IsPermitted values (s, v) all among
  taken-permitted values s stated v all (inr (same, none)) permitted = subst (Permits schema s) (sym same) permitted

  given-well : (values : Values) (e : Rule) → All IsPermitted values → item_at e.0 schema.keys ≡ Some e.1 → AreValuesOf e.1 (stated_values e.1) → AreValuesOf e.1 (key_values values e.0 e.1)
  given-well values e all own stated =
      let permitted : Permits schema (slot.Key e.0) (value.Values (key_values values e.0 e.1)) =
      taken-permitted values (slot.Key e.0) (value.Values (stated_values e.1)) (value.Values (key_values values e.0 e.1)) all (key-taken e.0 e.1 values all) (rw own stated) in
      rw own at permitted

  pub joined-valid : (values : Values) → SchemaIsSound schema → IsInOrder schema.keys → All IsPermitted values → IsValid schema (joined_request schema values)
  joined-valid values sound order all = record {
    words = record {
      id = taken-permitted values slot.Principal stated_principal (principal_of (principal_in schema.shapes values)) all (principal-taken values all) (stated-is-word schema.shapes.aws sound.shapes.aws);
      action = taken-permitted values slot.Action stated_action (value.Word (action_in schema.shapes values)) all (action-taken values all) (stated-is-word schema.shapes.action sound.shapes.action);
      resource = taken-permitted values slot.Resource stated_resource (value.Word (resource_in schema.shapes values)) all (resource-taken values all) (stated-is-word schema.shapes.resource sound.shapes.resource);
    };
    keys = context-valid (key_values values) schema.keys order (all-among (λ (e : Rule). AreValuesOf e.1 (key_values values e.0 e.1)) schema.keys (λ e among.
        given-well values e all (own-item schema.keys order e among) (values-permitted e.1 (All-contains (λ (x : Rule). RuleIsSound x.1) schema.keys e sound.rules among))));
  }

-- ---- what a test on a key answers by the key's values

-- keys that are compared as equal are the same
same-key : (x y : List ℕ) → eq_by_cmp (slice_cmp nat_cmp) x y ≡ true → x ≡ y
same-key x y e = (bytes_eq-Decides x y).0 (sym (is_eq-slice_cmp x y) ∙ e)

present-by : (b : Bool) (o : Option (List Value)) (vs : List Value) → unwrap_or o [] ≡ vs → MatchBool b (vs ≢ []) (¬ (vs ≢ [])) → MatchBool b (MatchOption o ⊥ (λ ws. ws ≢ [])) (¬ MatchOption o ⊥ (λ ws. ws ≢ []))
present-by true None vs is some = some (sym is)
present-by true (Some ws) vs is some = λ none. some (sym is ∙ none)
present-by false None vs is none = λ never. never
present-by false (Some ws) vs is none = λ some. none (λ e. some (is ∙ e))

module _ (schema : Schema) (tests : List Test) (path : Answers) where
  abbrev Here : Slot × SlotValue → Type 0
  Here p = IsSlotValue schema tests path p.0 p.1

  abbrev Each : Values → Type 0
  Each values = All Here values

  -- ---- what is taken answers the slot's tests, and is the stated value where the slot has none

  -- each value is permitted
  pub all-permitted : (values : Values) → Each values → All (λ (p : Slot × SlotValue). Permits schema p.0 p.1) values
  all-permitted values each i d within = (each i d within).0

  none-there : (values : Values) (s : Slot) → All (λ (p : Slot × SlotValue). p.0 ≢ s) values → Any (λ (p : Slot × SlotValue). p.0 ≡ s) values → ⊥
  none-there values s none (k, p, within, at, same) = All-contains (λ (q : Slot × SlotValue). q.0 ≢ s) values p none (k, within, at) same

  taken-answers : (values : Values) (s : Slot) (stated v : SlotValue) → AreSlotValues schema tests path values → IsTaken values s stated v → HasTest tests path s → AnswersSlot tests path s v
  taken-answers values s stated v are (inl among) asked = (All-contains Here values (s, v) are.each among).1
  taken-answers values s stated v are (inr (same, none)) asked = absurd (none-there values s none (are.there s asked))

  taken-stated : (values : Values) (s : Slot) (stated v : SlotValue) → All (λ (p : Slot × SlotValue). HasTest tests path p.0) values → IsTaken values s stated v → (HasTest tests path s → ⊥) → v ≡ stated
  taken-stated values s stated v needed (inl among) none = absurd (none (All-contains (λ (p : Slot × SlotValue). HasTest tests path p.0) values (s, v) needed among))
  taken-stated values s stated v needed (inr (same, others)) none = same

  -- ---- keys

  rule-in : (o : Option KeyRule) (P : KeyRule → Type 0) → MatchOption o ⊥ P → (rule : KeyRule) × (o ≡ Some rule)
  rule-in None P h = absurd h
  rule-in (Some rule) P h = (rule, refl)

  rule-there : (key : List ℕ) (v : SlotValue) → Permits schema (slot.Key key) v → (rule : KeyRule) × (item_at key schema.keys ≡ Some rule)
  rule-there key (value.Values vs) h = rule-in (item_at key schema.keys) (λ rule. AreValuesOf rule vs) h
  rule-there key (value.Word t) h = absurd h
  rule-there key (value.Principal kind id) h = absurd h

  -- a key with a value among these is one of the schema's
  rule-of : (values : Values) (key : List ℕ) → Any (λ (p : Slot × SlotValue). p.0 ≡ slot.Key key) values → Each values → (rule : KeyRule) × (item_at key schema.keys ≡ Some rule)
  rule-of values key (k, p, within, at, on) each = rule-there key p.1 (subst (λ (s : Slot). Permits schema s p.1) on (All-contains Here values p each (k, within, at)).0)

  -- ---- the joined request

  module _ (values : Values) (order : IsInOrder schema.keys) where
    -- a key of the schema has in it what is taken for it
    values-taken : (key : List ℕ) (rule : KeyRule) → item_at key schema.keys ≡ Some rule → values_at (joined_request schema values) key ≡ key_values values key rule
    values-taken key rule there = has-given (key_values values) schema.keys order (key, rule) (Contains-from_lookup same-key key rule schema.keys there)

    key-answers : AreSlotValues schema tests path values → (key : List ℕ) (rule : KeyRule) → HasTest tests path (slot.Key key) → AnswersSlot tests path (slot.Key key) (value.Values (key_values values key rule))
    key-answers are key rule asked =
        taken-answers values (slot.Key key) (value.Values (stated_values rule)) (value.Values (key_values values key rule)) are (key-taken schema key rule values (all-permitted values are.each)) asked

    -- a test holds on the request as its slot's value meets it
    test-answers : AreSlotValues schema tests path values → (n : ℕ) (b : Bool) (t : Test) → HasTest tests path (slot_of t) → answer_of path n ≡ Some b → slice_get tests n ≡ Some t → MatchBool b (TestHolds (joined_request schema values) t) (¬ TestHolds (joined_request schema values) t)
    test-answers are n b (Principal entry) asked answered at =
        taken-answers values slot.Principal (stated_principal schema) (principal_of (principal_in schema.shapes values)) are (principal-taken schema values (all-permitted values are.each)) asked n b (Principal entry) answered at refl
    test-answers are n b (Action pattern) asked answered at =
        taken-answers values slot.Action (stated_action schema) (value.Word (action_in schema.shapes values)) are (action-taken schema values (all-permitted values are.each)) asked n b (Action pattern) answered at refl
    test-answers are n b (Resource pattern) asked answered at =
        taken-answers values slot.Resource (stated_resource schema) (value.Word (resource_in schema.shapes values)) are (resource-taken schema values (all-permitted values are.each)) asked n b (Resource pattern) answered at refl
    test-answers are n b (Present key) asked answered at =
        let found = rule-of values key (are.there (slot.Key key) asked) are.each in
        present-by b (item_at key (context_in values schema.keys)) (key_values values key found.0) (values-taken key found.0 found.1) (key-answers are key found.0 asked n b (Present key) answered at refl)
    test-answers are n b (SomeMeets key c) asked answered at =
        let found = rule-of values key (are.there (slot.Key key) asked) are.each in
        subst (λ (vs : List Value). MatchBool b (Any (λ v. CondMeets v c) vs) (¬ Any (λ v. CondMeets v c) vs)) (sym (values-taken key found.0 found.1)) (key-answers are key found.0 asked n b (SomeMeets key c) answered at refl)
    test-answers are n b (SomeMeetsNone key cs) asked answered at =
        let found = rule-of values key (are.there (slot.Key key) asked) are.each in
        subst (λ (vs : List Value). MatchBool b (Any (λ v. ¬ MeetsSome cs v) vs) (¬ Any (λ v. ¬ MeetsSome cs v) vs)) (sym (values-taken key found.0 found.1)) (key-answers are key found.0 asked n b (SomeMeetsNone key cs) answered at refl)

    pub joined-answers : AreSlotValues schema tests path values → AnswersPath tests path (joined_request schema values)
    joined-answers are n b t answered at = test-answers are n b t (asked-by tests path n b t answered at) answered at

    -- ---- slots without a test

    pub principal-stated : AreSlotValues schema tests path values → (HasTest tests path slot.Principal → ⊥) → ((principal_in schema.shapes values).0 ≡ Aws) × ((principal_in schema.shapes values).1 ≡ stated_word schema.shapes.aws)
    principal-stated are none =
        let same : principal_of (principal_in schema.shapes values) ≡ value.Principal Aws (stated_word schema.shapes.aws) = taken-stated values slot.Principal (stated_principal schema) (principal_of (principal_in schema.shapes values)) are.needed (principal-taken schema values (all-permitted values are.each)) none in
        (cc, cc)

    pub action-stated : AreSlotValues schema tests path values → (HasTest tests path slot.Action → ⊥) → action_in schema.shapes values ≡ stated_word schema.shapes.action
    action-stated are none =
        let same : value.Word (action_in schema.shapes values) ≡ value.Word (stated_word schema.shapes.action) = taken-stated values slot.Action (stated_action schema) (value.Word (action_in schema.shapes values)) are.needed (action-taken schema values (all-permitted values are.each)) none in
        cc

    pub resource-stated : AreSlotValues schema tests path values → (HasTest tests path slot.Resource → ⊥) → resource_in schema.shapes values ≡ stated_word schema.shapes.resource
    resource-stated are none =
        let same : value.Word (resource_in schema.shapes values) ≡ value.Word (stated_word schema.shapes.resource) = taken-stated values slot.Resource (stated_resource schema) (value.Word (resource_in schema.shapes values)) are.needed (resource-taken schema values (all-permitted values are.each)) none in
        cc

    key-stated : AreSlotValues schema tests path values → (e : Rule) → Contains schema.keys e → (HasTest tests path (slot.Key e.0) → ⊥) → values_at (joined_request schema values) e.0 ≡ stated_values e.1
    key-stated are e among none =
        let same : value.Values (key_values values e.0 e.1) ≡ value.Values (stated_values e.1) = taken-stated values (slot.Key e.0) (value.Values (stated_values e.1)) (value.Values (key_values values e.0 e.1)) are.needed (key-taken schema e.0 e.1 values (all-permitted values are.each)) none in
        let equal : key_values values e.0 e.1 ≡ stated_values e.1 = cc in
        has-given (key_values values) schema.keys order e among ∙ equal

    pub keys-stated : AreSlotValues schema tests path values → KeysAreStated schema tests path (joined_request schema values)
    keys-stated are = all-among (λ (e : Rule). (HasTest tests path (slot.Key e.0) → ⊥) → values_at (joined_request schema values) e.0 ≡ stated_values e.1) schema.keys (key-stated are)

-- the request is the joined one where its parts are
pub joined-is : (schema : Schema) (values : Values) (kind : PrincipalKind) (id action resource : List ℕ) (context : Entries (List Value)) → (kind, id) ≡ principal_in schema.shapes values → action ≡ action_in schema.shapes values →
    resource ≡ resource_in schema.shapes values → context ≡ context_in values schema.keys →
    record { kind = kind; id = id; action = action; resource = resource; context = context } ≡ joined_request schema values
joined-is schema values kind id action resource context p a r k =
    let first : kind ≡ (principal_in schema.shapes values).0 = ap (λ (q : PrincipalKind × List ℕ). q.0) p in
    let second : id ≡ (principal_in schema.shapes values).1 = ap (λ (q : PrincipalKind × List ℕ). q.1) p in
    cc

-- The conditions of the set of findings stand for predicates of the strata.
use Rattle.std.proofs.Common.{◌≡◌, ℕ, Bool, true, false, not, List, [], ◌∷◌, length, get_or, map, All, Contains, Option, Some, None, if◌then◌else◌, refl, ap, sym, ◌∙◌, subst, inl, inr, option_map}
use Rattle.std.specs.Prelude.{IsSome, MatchOption, unwrap_or}
use Rattle.std.proofs.Math.ListN.{get_or-eq_default}
use Rattle.std.proofs.lemmas.Bool.{cases_lt}
use Rattle.std.proofs.lemmas.List.{get_or_default}
use Rattle.std.proofs.lemmas.List.Elements.{All-append, All-cons, All-contains_itself, All-head, All-map, All-nil, All-tail}
use Rattle.text_table.specs.Table.{item_at}
use Rattle.intervals.specs.declared.compare.Compare as compare
use Rattle.intervals.specs.declared.compare.Compare.TheVariants as how
use Rattle.policy_model.specs.Conds.{cond_kind}
use Rattle.policy_model.specs.Operators.{family_of, is_null, takes_family}
use Rattle.policy_model.specs.declared.cond.Cond.{Cond}
use Rattle.policy_model.specs.declared.cond.Cond.TheVariants.{Matches, Compares, Inside, Flag, Equals}
use Rattle.policy_model.specs.declared.operator.Base.{Base}
use Rattle.policy_model.specs.declared.operator.Base.TheVariants as base
use Rattle.policy_model.specs.declared.operator.Condition.{Condition}
use Rattle.policy_model.specs.declared.operator.Quantifier.TheVariants.{Plain, ForAny}
use Rattle.policy_model.specs.declared.schema.KeyRule.{KeyRule}
use Rattle.policy_model.specs.declared.schema.Schema.{Schema}
use Rattle.policy_model.specs.declared.set.Document.{Document}
use Rattle.policy_model.specs.declared.set.Statement.{Statement}
use Rattle.policy_model.specs.declared.test.Slot.{Slot}
use Rattle.policy_model.specs.declared.test.Slot.TheVariants as slot
use Rattle.policy_model.specs.declared.value.Kind.{Kind}
use Rattle.policy_model.specs.declared.value.Kind.TheVariants.{Text, Truth, Number}
use Rattle.request_schema.specs.KeyOperators.{IsOperatorOn}
use Rattle.request_schema.specs.Uses.{is_bool, is_plain}
use Rattle.slot_theory.specs.Slots.{SlotIsIn}
use Rattle.strata.specs.declared.predicate.Predicate.{Predicate}
use Rattle.strata.specs.declared.predicate.Predicate.TheVariants.{Every, Principal, Word, Meets}
use Rattle.strata.specs.declared.stratum.Strata.{Strata}
use Rattle.strata.specs.declared.stratum.Stratum.{Stratum}
use Rattle.strata.specs.Covers.{predicate_at}
use Rattle.findings.specs.Texts.{is_narrow_wildcard, takes_either_case}
use Rattle.std.specs.List.{list_any}
use Rattle.read_predicates.specs.KnownKeys.{EachConditionIn, EachConditionOf, KnownKeysKeepSchemas, StandsForPredicate}
use Rattle.policy_emit.specs.Emitted.{cond_base, condition_on, conditions_in, emitted_document, emitted_set, emitted_statement, has_several, key_conditions, numeric_base}
use Rattle.policy_emit.specs.KnownKeys.{EmittedKeysAreKnown}
use Rattle.policy_emit.proofs.Placing.{ordered-all}

-- ---- operators

-- an operator for values of the kind, whatever its prefix
record IsBaseOn (k : Kind) (b : Base) : Type 0 where
  compares : is_null b ≡ false
  takes : takes_family k (family_of b) ≡ true
  truth : k ≡ Truth → is_bool (family_of b) ≡ true

text-base : (narrow either : Bool) → IsBaseOn Text (if narrow then base.ArnLike else (if either then base.StringEqualsIgnoreCase else base.StringLike))
text-base true either = record { compares = refl; takes = refl; truth = λ is. absurd (cc) }
text-base false true = record { compares = refl; takes = refl; truth = λ is. absurd (cc) }
text-base false false = record { compares = refl; takes = refl; truth = λ is. absurd (cc) }

number-base : (compare : compare.Compare) → IsBaseOn Number (numeric_base compare)
number-base how.Equal = record { compares = refl; takes = refl; truth = λ is. absurd (cc) }
number-base how.Less = record { compares = refl; takes = refl; truth = λ is. absurd (cc) }
number-base how.LessOrEqual = record { compares = refl; takes = refl; truth = λ is. absurd (cc) }
number-base how.Greater = record { compares = refl; takes = refl; truth = λ is. absurd (cc) }
number-base how.GreaterOrEqual = record { compares = refl; takes = refl; truth = λ is. absurd (cc) }

base-on : (c : Cond) → IsBaseOn (cond_kind c) (cond_base c)
base-on (Matches pattern) = text-base (list_any is_narrow_wildcard pattern) (list_any takes_either_case pattern)
base-on (Compares compare bound) = number-base compare
base-on (Inside block) = record { compares = refl; takes = refl; truth = λ is. absurd (cc) }
base-on (Flag at_true at_false) = record { compares = refl; takes = refl; truth = λ is. refl }
base-on (Equals bytes) = record { compares = refl; takes = refl; truth = λ is. absurd (cc) }

prefixed-by : (several : Bool) → not (is_plain (if several then ForAny else Plain)) ≡ several
prefixed-by true = refl
prefixed-by false = refl

module _ (schema : Schema) (strata : Strata) where
  abbrev Stands : Condition → Type 0
  Stands c = StandsForPredicate schema strata c

  -- the schema has the key of each dimension of a key
  abbrev HasSlot : Stratum → Type 0
  HasSlot x = SlotIsIn schema x.slot

  operator-on : (key : List ℕ) (c : Cond) → IsSome (item_at key schema.keys) → MatchOption (item_at key schema.keys) ⊥ (λ rule. IsOperatorOn (cond_kind c) rule.many (condition_on schema key c).operator)
  operator-on key c some = by (item_at key schema.keys) refl some
    where
      by : (o : Option KeyRule) → item_at key schema.keys ≡ o → IsSome o → MatchOption o ⊥ (λ rule. IsOperatorOn (cond_kind c) rule.many (condition_on schema key c).operator)
      by None is some = absurd (cc)
      by (Some rule) is some =
          let own = base-on c in
          let many : has_several schema key ≡ rule.many = ap (λ (o : Option KeyRule). unwrap_or (option_map (λ (r : KeyRule). r.many) o) false) is in
          record { compares = own.compares; takes = own.takes; truth = own.truth; prefixed = prefixed-by (has_several schema key) ∙ many }

  -- ---- the conditions of a finding

  -- what is asked by a number of a dimension is one of its predicates, where it isn't `any`
  asked-kept : (x : Stratum) (n : ℕ) (c : Cond) → predicate_at x.predicates n ≡ Meets c → Contains x.predicates (Meets c)
  asked-kept x n c is = elim (cases_lt n (length x.predicates)) [
    | inl within ↦ (n, within, get_or_default x.predicates n (Meets c) Every within ∙ is)
    | inr past ↦
        let none : predicate_at x.predicates n ≡ Every = get_or-eq_default x.predicates Every past in
        let no : Every ≡ Meets c = sym none ∙ is in
        absurd (cc)
  ]

  own-stands : (x : Stratum) (n : ℕ) → Contains strata.dimensions x → HasSlot x → (s : Slot) (p : Predicate) → x.slot ≡ s → predicate_at x.predicates n ≡ p → All Stands (key_conditions schema s p)
  own-stands x n at has (slot.Key key) (Meets c) on is =
      let known : IsSome (item_at key schema.keys) = subst (SlotIsIn schema) on has in
      All-cons Stands (condition_on schema key c) []
      (record { asked = c; dimension = (at.0, x, at.1, at.2, record { on = on; kept = asked-kept x n c is }); operator = operator-on key c known })
      (All-nil Stands)
  own-stands x n at has (slot.Key key) Every on is = All-nil Stands
  own-stands x n at has (slot.Key key) (Principal entry) on is = All-nil Stands
  own-stands x n at has (slot.Key key) (Word pattern) on is = All-nil Stands
  own-stands x n at has slot.Principal p on is = All-nil Stands
  own-stands x n at has slot.Action p on is = All-nil Stands
  own-stands x n at has slot.Resource p on is = All-nil Stands

  conditions-stand : (ds : List Stratum) (f : List ℕ) → All (Contains strata.dimensions) ds → All HasSlot ds → All Stands (conditions_in schema ds f)
  conditions-stand [] f at has = All-nil Stands
  conditions-stand (d ∷ ds) [] at has = All-nil Stands
  conditions-stand (d ∷ ds) (n ∷ f) at has =
      All-append Stands (key_conditions schema d.slot (predicate_at d.predicates n)) (conditions_in schema ds f)
      (own-stands d n (All-head (Contains strata.dimensions) d ds at) (All-head HasSlot d ds has) d.slot (predicate_at d.predicates n) refl refl)
      (conditions-stand ds f (All-tail (Contains strata.dimensions) d ds at) (All-tail HasSlot d ds has))

  abbrev SomeStand : Statement → Type 0
  SomeStand s = All Stands s.conditions

  statement-stands : (f : List ℕ) → All HasSlot strata.dimensions → SomeStand (emitted_statement schema strata.dimensions f)
  statement-stands f has =
      ordered-all Stands (conditions_in schema strata.dimensions f) (conditions-stand strata.dimensions f (All-contains_itself strata.dimensions) has)

  set-stands : (fs : List (List ℕ)) → All HasSlot strata.dimensions → EachConditionOf Stands (emitted_set schema strata.dimensions fs)
  set-stands fs has =
      let documents : Document → Type 0 = λ (d : Document). All SomeStand d.statements in
      let each : All SomeStand (map (emitted_statement schema strata.dimensions) fs) =
      All-map SomeStand (emitted_statement schema strata.dimensions) fs (λ i f within. statement-stands (get_or fs i f) has) in
      record {
        granting = All-cons documents (emitted_document schema strata.dimensions fs) [] each (All-nil documents);
        guarding = All-nil (EachConditionIn Stands);
      }

-- each slot is one of the schema
has-slots : (schema : Schema) (ds : List Stratum) (slots : List Slot) → map (λ x. x.slot) ds ≡ slots → All (SlotIsIn schema) slots → All (λ x. SlotIsIn schema x.slot) ds
has-slots schema ds slots on known = unmapped ds (subst (All (SlotIsIn schema)) (sym on) known)
  where
    unmapped : (xs : List Stratum) → All (SlotIsIn schema) (map (λ x. x.slot) xs) → All (λ x. SlotIsIn schema x.slot) xs
    unmapped [] all = All-nil (λ (x : Stratum). SlotIsIn schema x.slot)
    unmapped (x ∷ xs) all =
        All-cons (λ (y : Stratum). SlotIsIn schema y.slot) x xs (All-head (SlotIsIn schema) x.slot (map (λ y. y.slot) xs) all)
        (unmapped xs (All-tail (SlotIsIn schema) x.slot (map (λ y. y.slot) xs) all))

pub keys-known : KnownKeysKeepSchemas → EmittedKeysAreKnown
keys-known keeps named schema set base strata fs inferred made =
    keeps named schema set (emitted_set schema strata.dimensions fs) base strata inferred made
    (set-stands schema strata fs (has-slots schema strata.dimensions made.slots made.are.on made.known))

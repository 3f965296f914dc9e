-- The predicates that the tests of a read set name, and those of them that are kept, are of the forms that files give.
use Rattle.std.proofs.Common.{◌≡◌, ◌≢◌, ℕ, ◌<◌, ◌||◌, Bool, true, false, List, [], ◌∷◌, ◌++◌, length, get_or, All as Each, Any, Option, Some, None, refl, ap, sym, ◌∙◌, subst, inl, inr, arith, ℤ}
use Rattle.std.specs.Prelude.{⊤, IfSome}
use Rattle.std.proofs.lemmas.List.{get_or_default}
use Rattle.std.proofs.lemmas.List.Elements.{All-append, All-cons, All-contains, All-map, All-nil}
use Rattle.wildcard_lang.specs.declared.piece.Piece.{Piece}
use Rattle.intervals.specs.Scaled.{IsScaled}
use Rattle.intervals.specs.Laws.{DecimalOfIsTheForm, MomentOfIsTheForms}
use Rattle.cidr_bits.specs.Laws.{BlockOfIsTheForm}
use Rattle.cidr_bits.specs.Numbers.{IsAddress}
use Rattle.policy_model.specs.Conditions.{conds_of, kind_at}
use Rattle.policy_model.specs.Conds.{CondMeets}
use Rattle.policy_model.specs.Keys.{IsFolded}
use Rattle.policy_model.specs.Operators.{cond_of, family_of, pattern_cond, truth_cond}
use Rattle.policy_model.specs.Requests.{HasValidRequest}
use Rattle.policy_model.specs.declared.cond.Cond.{Cond}
use Rattle.policy_model.specs.declared.cond.Cond.TheVariants as cond
use Rattle.policy_model.specs.declared.matcher.Matcher.{Matcher}
use Rattle.policy_model.specs.declared.operator.Base.{Base}
use Rattle.policy_model.specs.declared.operator.Condition.{Condition}
use Rattle.policy_model.specs.declared.operator.Family.{Family}
use Rattle.policy_model.specs.declared.operator.Family.TheVariants as family
use Rattle.policy_model.specs.declared.operator.Operand.{Operand}
use Rattle.policy_model.specs.declared.operator.Operand.TheVariants as operand
use Rattle.policy_model.specs.declared.principal.Entry.TheVariants.{All}
use Rattle.policy_model.specs.declared.schema.Schema.{Schema}
use Rattle.policy_model.specs.declared.set.Document.{Document}
use Rattle.policy_model.specs.declared.set.PolicySet.{PolicySet}
use Rattle.policy_model.specs.declared.set.Statement.{Statement}
use Rattle.policy_model.specs.declared.test.Slot.{Slot}
use Rattle.policy_model.specs.declared.test.Slot.TheVariants as slot
use Rattle.policy_model.specs.declared.test.Test.{Test}
use Rattle.policy_model.specs.declared.test.Test.TheVariants as test
use Rattle.policy_model.specs.declared.value.Kind.{Kind}
use Rattle.policy_model.specs.declared.value.Kind.TheVariants as kind
use Rattle.policy_model.specs.declared.value.Value.{Value}
use Rattle.policy_model.specs.declared.value.Value.TheVariants as value
use Rattle.policy_compile.specs.Asked.{ConditionAsks, HasItem, IsAskedBy, SomeStatementIn, SomeStatementOf}
use Rattle.policy_compile.specs.declared.outcome.Query.{Query}
use Rattle.policy_compile.specs.Queries.{IsQuery}
use Rattle.policy_compile.specs.Plans.{tests_in}
use Rattle.policy_compile.specs.Sets.{set_plan}
use Rattle.policy_compile.proofs.Laws.{All-collects, set-asked}
use Rattle.slot_theory.specs.Slots.{slot_of}
use Rattle.policy_json.specs.ReadForms.{AreReadDocuments, IsReadAction, IsReadCondition, IsReadEntry, IsReadForm, IsReadNumber, IsReadOperand, IsReadResource, IsReadStatement, IsWhole}
use Rattle.policy_json.proofs.Laws.{read-form}
use Rattle.strata.specs.declared.predicate.Predicate.{Predicate}
use Rattle.strata.specs.declared.predicate.Predicate.TheVariants.{Every, Principal, Word, Meets}
use Rattle.strata.specs.declared.stratum.Stratum.{Stratum}
use Rattle.strata.specs.Below.{IsBelow, IsMetUnder}
use Rattle.strata.specs.Covers.{IsBelowAt, predicate_at}
use Rattle.strata.specs.Predicates.{test_predicates}
use Rattle.strata.specs.Strata.{IsStratum}
use Rattle.strata.proofs.Laws.{any-first, stratum-differ, stratum-met}
use Rattle.findings.specs.declared.region.Region.{Region}
use Rattle.findings.specs.declared.region.Region.TheVariants.{AllowedBy, NewlyAllowed}
use Rattle.findings.specs.Regions.{region_plan}
use Rattle.read_predicates.specs.Laws.{IsRegionOfFiles, PredicatesAreOfWrittenForms}
use Rattle.read_predicates.specs.WrittenForms.{IsWrittenCond, IsWrittenForm, IsWrittenPattern}
use Rattle.read_predicates.proofs.Blocks.{block-in}
use Rattle.read_predicates.proofs.Bytes.{decoded-bytes}
use Rattle.read_predicates.proofs.Naming.{NamesOwn, stratum-named}
use Rattle.read_predicates.proofs.Patterns.{pattern-written, word-written}
use Rattle.read_predicates.proofs.Ranges.{decimal-in, moment-in, whole-scaled}

-- ---- what is named: also every principal, and a flag that nothing meets

abbrev IsNamedCond : Cond → Type 0
IsNamedCond (cond.Matches p) = IsWrittenPattern p
IsNamedCond (cond.Compares how bound) = IsScaled bound
IsNamedCond (cond.Inside block) = IsAddress block.first
IsNamedCond (cond.Flag at_true at_false) = ⊤
IsNamedCond (cond.Equals bytes) = Each (λ b. b < 256) bytes

record IsNamedOf (key : List ℕ) (c : Cond) : Type 0 where
  folded : IsFolded key
  named : IsNamedCond c

abbrev IsNamedForm : Slot → Predicate → Type 0
IsNamedForm s Every = ⊤
IsNamedForm slot.Principal (Principal entry) = IsReadEntry entry
IsNamedForm slot.Action (Word pattern) = IsReadAction pattern
IsNamedForm slot.Resource (Word pattern) = IsReadResource pattern
IsNamedForm (slot.Key key) (Meets c) = IsNamedOf key c
IsNamedForm s p = ⊥

-- ---- what a value of a condition asks

-- what the readers of numbers and blocks say
pub record Readings : Type 0 where
  pub decimals : DecimalOfIsTheForm
  pub moments : MomentOfIsTheForms
  pub blocks : BlockOfIsTheForm

module _ (readings : Readings) where
  whole-in : (units : ℤ) → IsWhole units → IsScaled units
  whole-in units is = whole-scaled is.0 units is.1

  decimal-or-whole : (units : ℤ) → IsReadNumber family.Numeric units → IsScaled units
  decimal-or-whole units (inl text) = decimal-in text.0 units ((readings.decimals text.0 units).0 text.1)
  decimal-or-whole units (inr is) = whole-in units is

  moment-or-whole : (units : ℤ) → IsReadNumber family.Date units → IsScaled units
  moment-or-whole units (inl text) = moment-in text.0 units ((readings.moments text.0 units).0 text.1)
  moment-or-whole units (inr is) = whole-in units is

  number-scaled : (f : Family) (units : ℤ) → IsReadNumber f units → IsScaled units
  number-scaled family.Date units is = moment-or-whole units is
  number-scaled family.Text units is = decimal-or-whole units is
  number-scaled family.Numeric units is = decimal-or-whole units is
  number-scaled family.Bool units is = decimal-or-whole units is
  number-scaled family.Binary units is = decimal-or-whole units is
  number-scaled family.Address units is = decimal-or-whole units is
  number-scaled family.Arn units is = decimal-or-whole units is
  number-scaled family.Null units is = decimal-or-whole units is

  pattern-named : (k : Kind) (p : List Piece) → IsWrittenPattern p → IsNamedCond (pattern_cond k p)
  pattern-named kind.Truth p is = tt
  pattern-named kind.Text p is = is
  pattern-named kind.Number p is = is
  pattern-named kind.Address p is = is
  pattern-named kind.Bytes p is = is

  truth-named : (k : Kind) (t : Bool) → IsNamedCond (truth_cond k t)
  truth-named kind.Text t = word-written t
  truth-named kind.Truth t = tt
  truth-named kind.Number t = tt
  truth-named kind.Address t = tt
  truth-named kind.Bytes t = tt

  operand-named : (k : Kind) (b : Base) (o : Operand) → IsReadOperand b o → IsNamedCond (cond_of k b o)
  operand-named k b (operand.Pattern p) is = pattern-named k p (pattern-written b p is.0 is.1)
  operand-named k b (operand.Number units) is = number-scaled (family_of b) units is
  operand-named k b (operand.Block block) is = block-in readings.blocks is.0 block is.1
  operand-named k b (operand.Truth t) is = truth-named k t
  operand-named k b (operand.Bytes bytes) is = decoded-bytes is.0 bytes is.1

  -- ---- what a statement asks

  -- some item has what each has
  some-with : {T : Type 0} (P Q : T → Type 0) (xs : List T) → Any P xs → Each Q xs → (x : T) × P x × Q x
  some-with P Q xs some each = (some.1, some.4, subst Q some.3 (each some.0 some.1 some.2))

  item-of : {T : Type 0} (P : T → Type 0) (o : Option (Matcher T)) (x : T) → HasItem o x → IfSome o (λ m. Each P m.items) → P x
  item-of P None x at each = absurd at
  item-of P (Some m) x at each = All-contains P m.items x each at

  value-named : (schema : Schema) (key : List ℕ) (c : Cond) (d : Condition) → ConditionAsks schema (test.SomeMeets key c) d → IsReadCondition d → IsNamedOf key c
  value-named schema key c d asks read =
      let found = some-with (λ o. c ≡ cond_of (kind_at schema d.key) d.operator.base o) (IsReadOperand d.operator.base) d.values asks.value read.values in
      let named = operand-named (kind_at schema d.key) d.operator.base found.0 found.2 in
      record { folded = subst IsFolded asks.key_is read.sound.key; named = subst IsNamedCond (sym found.1) named }

  values-named : (schema : Schema) (key : List ℕ) (cs : List Cond) (d : Condition) → ConditionAsks schema (test.SomeMeetsNone key cs) d → IsReadCondition d → Each (IsNamedOf key) cs
  values-named schema key cs d asks read =
      let k = kind_at schema d.key in
      let folded : IsFolded key = subst IsFolded asks.key_is read.sound.key in
      let each : Each (IsNamedOf key) (conds_of k d) =
      All-map (IsNamedOf key) (cond_of k d.operator.base) d.values (λ i o within. record { folded = folded; named = operand-named k d.operator.base _ (read.values i o within) }) in
      subst (Each (IsNamedOf key)) (sym asks.values) each

  -- what a test names is of the test's slot
  named-of : (schema : Schema) (t : Test) (s : Statement) → IsAskedBy schema t s → IsReadStatement s → Each (IsNamedForm (slot_of t)) (test_predicates t)
  named-of schema (test.Principal entry) s asks read =
      All-cons (IsNamedForm slot.Principal) (Principal entry) [] (item-of IsReadEntry s.principal entry asks read.principal) (All-nil (IsNamedForm slot.Principal))
  named-of schema (test.Action pattern) s asks read =
      All-cons (IsNamedForm slot.Action) (Word pattern) [] (All-contains IsReadAction s.action.items pattern read.action asks) (All-nil (IsNamedForm slot.Action))
  named-of schema (test.Resource pattern) s asks read =
      All-cons (IsNamedForm slot.Resource) (Word pattern) [] (item-of IsReadResource s.resource pattern asks read.resource) (All-nil (IsNamedForm slot.Resource))
  named-of schema (test.Present key) s asks read = All-nil (IsNamedForm (slot.Key key))
  named-of schema (test.SomeMeets key c) s asks read =
      let found = some-with (ConditionAsks schema (test.SomeMeets key c)) IsReadCondition s.conditions asks read.conditions in
      All-cons (IsNamedForm (slot.Key key)) (Meets c) [] (value-named schema key c found.0 found.1 found.2) (All-nil (IsNamedForm (slot.Key key)))
  named-of schema (test.SomeMeetsNone key cs) s asks read =
      let found = some-with (ConditionAsks schema (test.SomeMeetsNone key cs)) IsReadCondition s.conditions asks read.conditions in
      All-map (IsNamedForm (slot.Key key)) Meets cs (values-named schema key cs found.0 found.1 found.2)

  abbrev Names : Test → Type 0
  Names t = Each (IsNamedForm (slot_of t)) (test_predicates t)

  documents-name : (schema : Schema) (t : Test) (documents : List Document) → SomeStatementIn (IsAskedBy schema t) documents → AreReadDocuments documents → Names t
  documents-name schema t documents some read =
      let d = some-with (λ d. Any (IsAskedBy schema t) d.statements) (λ d. Each IsReadStatement d.statements) documents some read in
      let s = some-with (IsAskedBy schema t) IsReadStatement d.0.statements d.1 d.2 in
      named-of schema t s.0 s.1 s.2

  set-names : (schema : Schema) (t : Test) (set : PolicySet) → SomeStatementOf (IsAskedBy schema t) set → IsReadForm set → Names t
  set-names schema t set (inl granted) read = documents-name schema t set.grants granted read.granting
  set-names schema t set (inr guarded) read =
      let g = some-with (SomeStatementIn (IsAskedBy schema t)) AreReadDocuments set.guards guarded read.guarding in
      documents-name schema t g.0 g.1 g.2

  plan-names : (schema : Schema) (set : PolicySet) → IsReadForm set → Each Names (tests_in (set_plan schema set))
  plan-names schema set read = λ i t within. set-names schema _ set (set-asked schema set i t within) read

  region-names : (schema : Schema) (region : Region) → IsRegionOfFiles region → Each Names (tests_in (region_plan schema region))
  region-names schema (AllowedBy set) files = plan-names schema set (read-form files.bytes set files.stands)
  region-names schema (NewlyAllowed first second) files =
      let taken = tests_in (set_plan schema second) in
      All-append Names (tests_in (set_plan schema first)) (taken ++ []) (plan-names schema first (read-form files.0.bytes first files.0.stands))
      (All-append Names taken [] (plan-names schema second (read-form files.1.bytes second files.1.stands)) (All-nil Names))

  tests-name : (schema : Schema) (region : Region) (q : Query) → IsRegionOfFiles region → IsQuery (region_plan schema region) q → Each Names q.tests
  tests-name schema region q files is =
      All-collects Names [] (tests_in (region_plan schema region)) q.tests is.tests (All-nil Names) (region-names schema region files)

-- `any` is of the form in each slot
any-named : (s : Slot) → IsNamedForm s Every
any-named slot.Principal = tt
any-named slot.Action = tt
any-named slot.Resource = tt
any-named (slot.Key key) = tt

-- ---- what is kept: some request meets it, and not the same ones as `any`

flag-met : (v : Value) (at_true at_false : Bool) → CondMeets v (cond.Flag at_true at_false) → (at_true || at_false) ≡ true
flag-met (value.Word t) a b met = absurd met
flag-met (value.Truth true) a b met = rw met refl
flag-met (value.Truth false) true b met = refl
flag-met (value.Truth false) false b met = met
flag-met (value.Number n) a b met = absurd met
flag-met (value.Address a1) a b met = absurd met
flag-met (value.Bytes bs) a b met = absurd met

cond-written : (schema : Schema) (key : List ℕ) (c : Cond) → IsNamedCond c → IsMetUnder schema (slot.Key key) (Meets c) → IsWrittenCond c
cond-written schema key (cond.Matches p) named met = named
cond-written schema key (cond.Compares how bound) named met = named
cond-written schema key (cond.Inside block) named met = named
cond-written schema key (cond.Flag a b) named met = let some = met.meets in flag-met some.1 a b some.4
cond-written schema key (cond.Equals bytes) named met = named

form-written : (schema : Schema) (s : Slot) (p : Predicate) → IsNamedForm s p → (s ≡ slot.Principal → p ≢ Principal All) → IsMetUnder schema s p → IsWrittenForm s p
form-written schema slot.Principal Every named other met = tt
form-written schema slot.Principal (Principal entry) named other met = record { not_all = λ is. other refl (ap Principal is); read = named }
form-written schema slot.Principal (Word pattern) named other met = absurd named
form-written schema slot.Principal (Meets c) named other met = absurd named
form-written schema slot.Action Every named other met = tt
form-written schema slot.Action (Principal entry) named other met = absurd named
form-written schema slot.Action (Word pattern) named other met = named
form-written schema slot.Action (Meets c) named other met = absurd named
form-written schema slot.Resource Every named other met = tt
form-written schema slot.Resource (Principal entry) named other met = absurd named
form-written schema slot.Resource (Word pattern) named other met = named
form-written schema slot.Resource (Meets c) named other met = absurd named
form-written schema (slot.Key key) Every named other met = tt
form-written schema (slot.Key key) (Principal entry) named other met = absurd named
form-written schema (slot.Key key) (Word pattern) named other met = absurd named
form-written schema (slot.Key key) (Meets c) named other met = record { folded = named.folded; cond = cond-written schema key c named.named met }

-- every principal isn't kept, since the same requests meet `any`, which comes first
all-not-kept : (schema : Schema) (s : Slot) (kept rest : List Predicate) → kept ≡ Every ∷ rest →
    ((i j : ℕ) → i < length kept → j < length kept → IsBelowAt schema s kept i j → IsBelowAt schema s kept j i → i ≡ j) →
    s ≡ slot.Principal → (i : ℕ) → i < length kept → predicate_at kept i ≢ Principal All
all-not-kept schema s kept rest begins differ on i within is =
    let first : predicate_at kept 0 ≡ Every = ap (λ (ps : List Predicate). predicate_at ps 0) begins in
    let some : 0 < length kept = omega (arith, within) in
    let everything : IsBelow schema s (predicate_at kept i) Every = λ r valid meets. tt in
    let below : IsBelowAt schema s kept i 0 = subst (IsBelow schema s (predicate_at kept i)) (sym first) everything in
    let all : IsBelow schema slot.Principal Every (Principal All) = λ r valid meets. tt in
    let there : IsBelow schema s Every (Principal All) = subst (λ (x : Slot). IsBelow schema x Every (Principal All)) (sym on) all in
    let above : IsBelowAt schema s kept 0 i = subst (λ (q : Predicate). IsBelow schema s q (predicate_at kept i)) (sym first) (subst (IsBelow schema s Every) (sym is) there) in
    let same : i ≡ 0 = differ i 0 within some below above in
    let both : Every ≡ Principal All = sym first ∙ ap (predicate_at kept) (sym same) ∙ is in
    absurd (cc)

stratum-written : (schema : Schema) (tests : List Test) (x : Stratum) → HasValidRequest schema → Each (NamesOwn IsNamedForm any-named) tests → IsStratum schema tests x → Each (IsWrittenForm x.slot) x.predicates
stratum-written schema tests x some names is = λ i d within.
    let begins = any-first schema tests x some is in
    let default : get_or x.predicates i d ≡ predicate_at x.predicates i = get_or_default x.predicates i d Every within in
    let other : x.slot ≡ slot.Principal → get_or x.predicates i d ≢ Principal All =
    λ on all. all-not-kept schema x.slot x.predicates begins.0 begins.1 (λ a b wa wb below above. stratum-differ schema tests x a b is wa wb below above) on i within (sym default ∙ all) in
    form-written schema x.slot (get_or x.predicates i d) (stratum-named IsNamedForm any-named schema tests x names is i d within) other (stratum-met schema tests x is i d within)

-- the predicates of strata that were made for read sets
pub made-written : Readings → PredicatesAreOfWrittenForms
made-written readings schema strata is =
    let names = tests-name readings schema is.region is.base is.files is.made.query in
    λ i x within. stratum-written schema is.base.tests (get_or strata.dimensions i x) is.made.has_request names (is.made.are.each i x within)

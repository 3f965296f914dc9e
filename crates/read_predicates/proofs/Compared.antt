-- Keys of which strata keep a predicate are keys whose values some condition of the set compares; and conditions that stand for such
-- predicates are known in runs on the set.
use Rattle.std.proofs.Common.{◌≡◌, ℕ, ◌&&◌, Bool, true, false, not, List, [], ◌++◌, append-nil, get_or, All as Each, Any, Option, Some, None, Ok, refl, ap, sym, ◌∙◌, subst, inl, inr}
use Rattle.std.specs.Prelude.{⊤, MatchOption}
use Rattle.std.proofs.lemmas.List.Elements.{All-cons, All-contains, All-map, All-nil}
use Rattle.text_table.specs.Table.{item_at}
use Rattle.policy_model.specs.Conds.{IsCondOf, cond_kind}
use Rattle.policy_model.specs.Operators.{is_null}
use Rattle.policy_model.specs.Soundness.{IsKeyWith, TestSuits}
use Rattle.policy_model.specs.declared.cond.Cond.{Cond}
use Rattle.policy_model.specs.declared.operator.Condition.{Condition}
use Rattle.policy_model.specs.declared.schema.KeyRule.{KeyRule}
use Rattle.policy_model.specs.declared.schema.Schema.{Schema}
use Rattle.policy_model.specs.declared.set.Document.{Document}
use Rattle.policy_model.specs.declared.set.PolicySet.{PolicySet}
use Rattle.policy_model.specs.declared.set.Statement.{Statement}
use Rattle.policy_model.specs.declared.test.Slot.{Slot}
use Rattle.policy_model.specs.declared.test.Slot.TheVariants as slot
use Rattle.policy_model.specs.declared.test.Test.{Test}
use Rattle.policy_model.specs.declared.test.Test.TheVariants as test
use Rattle.policy_model.specs.declared.value.Kind.{Kind}
use Rattle.policy_compile.specs.Asked.{ConditionAsks, IsAskedBy, SomeStatementIn, SomeStatementOf}
use Rattle.policy_compile.specs.Laws.{TestsOfSetQueriesSuit}
use Rattle.policy_compile.specs.Plans.{tests_in}
use Rattle.policy_compile.specs.Sets.{set_plan}
use Rattle.policy_compile.specs.declared.outcome.Query.{Query}
use Rattle.policy_compile.proofs.Laws.{All-collects, set-asked}
use Rattle.request_schema.specs.BuiltIn.{is_key}
use Rattle.request_schema.specs.KeyOperators.{IsOperatorOn}
use Rattle.request_schema.specs.RunSchemas.{IsInferred, KeysHaveTheirRules, infer_checks, infer_fault, run_rule, schema_for, schema_of_run}
use Rattle.request_schema.specs.Uses.{Use, uses_in, uses_of}
use Rattle.request_schema.proofs.Laws.{IsKnownUse, IsRunOf, is_key-same, run-among, run-renamed, to-set}
use Rattle.json_shapes.specs.Checks.{first_fault}
use Rattle.strata.specs.declared.predicate.Predicate.{Predicate}
use Rattle.strata.specs.declared.predicate.Predicate.TheVariants.{Every, Principal, Word, Meets}
use Rattle.strata.specs.declared.stratum.Strata.{Strata}
use Rattle.strata.specs.declared.stratum.Stratum.{Stratum}
use Rattle.strata.specs.Predicates.{SuitsSlot}
use Rattle.strata.specs.Strata.{IsStratum}
use Rattle.strata.proofs.Laws.{stratum-suits}
use Rattle.findings.specs.declared.region.Region.TheVariants.{AllowedBy}
use Rattle.findings.specs.Queries.{AreMadeFor}
use Rattle.read_predicates.specs.KnownKeys.{EachConditionOf, IsDimensionOf, KnownKeysKeepSchemas, StandsForPredicate}
use Rattle.read_predicates.proofs.Naming.{NamesOwn, stratum-named}
use Rattle.read_predicates.proofs.Uses.{some-use, uses-moved}

-- ---- what the set compares

-- whether the condition compares values of the key
abbrev compares_key : List ℕ → Condition → Bool
compares_key key c = is_key key c.key && not (is_null c.operator.base)

abbrev Compares : List ℕ → Statement → Type 0
Compares key s = Any (λ c. compares_key key c ≡ true) s.conditions

-- some condition of the set does
abbrev pub IsComparedIn : PolicySet → List ℕ → Type 0
IsComparedIn set key = SomeStatementOf (Compares key) set

any-with : {T : Type 0} (P Q : T → Type 0) → ((x : T) → P x → Q x) → (xs : List T) → Any P xs → Any Q xs
any-with P Q step xs some = (some.0, some.1, some.2, some.3, step some.1 some.4)

some-in-with : (P Q : Statement → Type 0) → ((s : Statement) → P s → Q s) → (documents : List Document) → SomeStatementIn P documents → SomeStatementIn Q documents
some-in-with P Q step documents = any-with (λ d. Any P d.statements) (λ d. Any Q d.statements) (λ d. any-with P Q step d.statements) documents

some-of-with : (P Q : Statement → Type 0) → ((s : Statement) → P s → Q s) → (set : PolicySet) → SomeStatementOf P set → SomeStatementOf Q set
some-of-with P Q step set (inl granted) = inl (some-in-with P Q step set.grants granted)
some-of-with P Q step set (inr guarded) = inr (any-with (SomeStatementIn P) (SomeStatementIn Q) (some-in-with P Q step) set.guards guarded)

key-compared : (key : List ℕ) (c : Condition) → c.key ≡ key → is_null c.operator.base ≡ false → compares_key key c ≡ true
key-compared key c same other =
    let here : is_key key c.key ≡ true = subst (λ (k : List ℕ). is_key key k ≡ true) (sym same) (is_key-same key) in
    rw (here, other) refl

asked-compared : (schema : Schema) (key : List ℕ) (asked : Cond) (s : Statement) → IsAskedBy schema (test.SomeMeets key asked) s → Compares key s
asked-compared schema key asked s = any-with (ConditionAsks schema (test.SomeMeets key asked)) (λ c. compares_key key c ≡ true) (λ c asks. key-compared key c asks.key_is asks.compares) s.conditions

all-compared : (schema : Schema) (key : List ℕ) (asked : List Cond) (s : Statement) → IsAskedBy schema (test.SomeMeetsNone key asked) s → Compares key s
all-compared schema key asked s = any-with (ConditionAsks schema (test.SomeMeetsNone key asked)) (λ c. compares_key key c ≡ true) (λ c asks. key-compared key c asks.key_is asks.compares) s.conditions

-- ---- what is kept of a key's dimension

module _ (set : PolicySet) where
  abbrev IsComparedAt : Slot → Predicate → Type 0
  IsComparedAt slot.Principal p = ⊤
  IsComparedAt slot.Action p = ⊤
  IsComparedAt slot.Resource p = ⊤
  IsComparedAt (slot.Key key) Every = ⊤
  IsComparedAt (slot.Key key) (Principal entry) = ⊤
  IsComparedAt (slot.Key key) (Word pattern) = ⊤
  IsComparedAt (slot.Key key) (Meets c) = IsComparedIn set key

  any-compared : (s : Slot) → IsComparedAt s Every
  any-compared slot.Principal = tt
  any-compared slot.Action = tt
  any-compared slot.Resource = tt
  any-compared (slot.Key key) = tt

  abbrev Names : Test → Type 0
  Names t = NamesOwn IsComparedAt any-compared t

  test-compares : (schema : Schema) (t : Test) → SomeStatementOf (IsAskedBy schema t) set → Names t
  test-compares schema (test.Principal entry) asked = All-cons (IsComparedAt slot.Principal) (Principal entry) [] tt (All-nil (IsComparedAt slot.Principal))
  test-compares schema (test.Action pattern) asked = All-cons (IsComparedAt slot.Action) (Word pattern) [] tt (All-nil (IsComparedAt slot.Action))
  test-compares schema (test.Resource pattern) asked = All-cons (IsComparedAt slot.Resource) (Word pattern) [] tt (All-nil (IsComparedAt slot.Resource))
  test-compares schema (test.Present key) asked = All-nil (IsComparedAt (slot.Key key))
  test-compares schema (test.SomeMeets key c) asked =
      All-cons (IsComparedAt (slot.Key key)) (Meets c) [] (some-of-with (IsAskedBy schema (test.SomeMeets key c)) (Compares key) (asked-compared schema key c) set asked) (All-nil (IsComparedAt (slot.Key key)))
  test-compares schema (test.SomeMeetsNone key cs) asked =
      let compared = some-of-with (IsAskedBy schema (test.SomeMeetsNone key cs)) (Compares key) (all-compared schema key cs) set asked in
      All-map (IsComparedAt (slot.Key key)) Meets cs (λ i c within. compared)

  kept-compared : (schema : Schema) (base : Query) (strata : Strata) → AreMadeFor schema (AllowedBy set) base strata → Each (λ x. Each (IsComparedAt x.slot) x.predicates) strata.dimensions
  kept-compared schema base strata made =
      let names = All-collects Names [] (tests_in (set_plan schema set)) base.tests made.query.tests (All-nil Names) (λ i t within. test-compares schema _ (set-asked schema set i t within)) in
      λ i x within. stratum-named IsComparedAt any-compared schema base.tests _ names (made.are.each i x within)

-- ---- what a condition that stands for a predicate says

-- what laws say of queries and of schemas
pub record RunLaws : Type 0 where
  pub suit : TestsOfSetQueriesSuit
  pub rules : KeysHaveTheirRules

module _ (laws : RunLaws) (schema : Schema) (set : PolicySet) (base : Query) (strata : Strata) (made : AreMadeFor schema (AllowedBy set) base strata) where
  tests-suit : Each (TestSuits schema) base.tests
  tests-suit = laws.suit schema set base.tests made.fits made.query.tests

  -- the condition's key is compared in the set, and its rule has the operator
  record IsKnownThere (c : Condition) : Type 0 where
    compared : IsComparedIn set c.key
    rule : IsKeyWith schema (λ rule. IsOperatorOn rule.kind rule.many c.operator) c.key

  kind-there : (asked : Cond) (c : Condition) (o : Option KeyRule) → MatchOption o ⊥ (λ rule. IsCondOf rule.kind asked) → MatchOption o ⊥ (λ rule. IsOperatorOn (cond_kind asked) rule.many c.operator) →
      MatchOption o ⊥ (λ rule. IsOperatorOn rule.kind rule.many c.operator)
  kind-there asked c None kind operator = absurd kind
  kind-there asked c (Some rule) kind operator = subst (λ (k : Kind). IsOperatorOn k rule.many c.operator) kind operator

  known-there : (c : Condition) → StandsForPredicate schema strata c → IsKnownThere c
  known-there c stands =
      let some = stands.dimension in
      let x = some.1 in
      let at : IsDimensionOf c stands.asked x = some.4 in
      let stratum : IsStratum schema base.tests x = subst (IsStratum schema base.tests) some.3 (made.are.each some.0 x some.2) in
      let kept : Each (IsComparedAt set x.slot) x.predicates = subst (λ (y : Stratum). Each (IsComparedAt set y.slot) y.predicates) some.3 (kept-compared set schema base strata made some.0 x some.2) in
      let compared : IsComparedAt set x.slot (Meets stands.asked) = All-contains (IsComparedAt set x.slot) x.predicates (Meets stands.asked) kept at.kept in
      let suits : SuitsSlot schema x.slot (Meets stands.asked) = All-contains (SuitsSlot schema x.slot) x.predicates (Meets stands.asked) (stratum-suits schema base.tests x tests-suit stratum) at.kept in
      let own : SuitsSlot schema (slot.Key c.key) (Meets stands.asked) = subst (λ (s : Slot). SuitsSlot schema s (Meets stands.asked)) at.on suits in
      record {
        compared = subst (λ (s : Slot). IsComparedAt set s (Meets stands.asked)) at.on compared;
        rule = kind-there stands.asked c (item_at c.key schema.keys) own stands.operator;
      }

  each-there : (b : Bool) (other : PolicySet) → EachConditionOf (StandsForPredicate schema strata) other → Each (λ u. IsKnownThere u.condition) (uses_in b other)
  each-there b other each =
      let stand = to-set (StandsForPredicate schema strata) b other each.granting each.guarding in
      λ i u within. known-there (get_or (uses_in b other) i u).condition (stand i u within)

  -- where a list of uses of the set has the schema, such uses are known to it
  known-use : (named : Schema) (b : Bool) → ((k : List ℕ) → item_at k schema.keys ≡ run_rule named (uses_in b set) k) → (u : Use) → IsKnownThere u.condition → IsKnownUse named (uses_in b set) u
  known-use named b ruled u known = record {
    in_use = λ further. some-use (compares_key u.condition.key) b set known.compared;
    rule = subst (λ (o : Option KeyRule). MatchOption o ⊥ (λ rule. IsOperatorOn rule.kind rule.many u.condition.operator)) (ruled u.condition.key) known.rule;
  }

  -- ---- the runs

  module _ (named : Schema) (inferred : IsInferred named set None (Ok schema)) where
    passed : first_fault (infer_checks named (uses_in false set)) ≡ None
    unfolding infer_fault uses_of
    passed = inferred.0

    schema-is : schema ≡ schema_for named (uses_in false set)
    unfolding schema_of_run uses_of
    schema-is = inferred.1

    ruled-first : (k : List ℕ) → item_at k schema.keys ≡ run_rule named (uses_in false set) k
    unfolding uses_of
    ruled-first k = ap (λ (s : Schema). item_at k s.keys) inferred.1 ∙ laws.rules named set None k

    -- the same set in the second place
    run-second : IsRunOf named (uses_in false set) (uses_in true set)
    run-second = subst (IsRunOf named (uses_in false set)) (sym (uses-moved set)) (run-renamed named (uses_in false set) (λ u. true) (λ u. u.name) passed [] (uses_in false set) refl)

    ruled-alone : (k : List ℕ) → item_at k (schema_for named (uses_in true set)).keys ≡ run_rule named (uses_in true set) k
    unfolding schema_of_run uses_of
    ruled-alone k = laws.rules named (record { grants = []; guards = [] }) (Some set) k

    ruled-second : (k : List ℕ) → item_at k schema.keys ≡ run_rule named (uses_in true set) k
    ruled-second k = ap (λ (s : Schema). item_at k s.keys) (schema-is ∙ sym run-second.schema) ∙ ruled-alone k

    module _ (other : PolicySet) (each : EachConditionOf (StandsForPredicate schema strata) other) where
      known-to : (b c : Bool) → ((k : List ℕ) → item_at k schema.keys ≡ run_rule named (uses_in c set) k) → Each (IsKnownUse named (uses_in c set)) (uses_in b other)
      known-to b c ruled = λ i u within. known-use named c ruled (get_or (uses_in b other) i u) (each-there b other each i u within)

      set-first : IsInferred named set (Some other) (Ok schema)
      unfolding infer_fault schema_of_run uses_of
      set-first =
          let us = uses_in false set in
          let es = uses_in true other in
          let ended : IsRunOf named us (us ++ (es ++ [])) = run-among named us passed us [] (sym (append-nil us)) es (known-to true false ruled-first) in
          let run : IsRunOf named us (us ++ es) = subst (λ (ts : List Use). IsRunOf named us (us ++ ts)) (append-nil es) ended in
          (run.passed, schema-is ∙ sym run.schema)

      set-second : IsInferred named other (Some set) (Ok schema)
      unfolding infer_fault schema_of_run uses_of
      set-second =
          let run = run-among named (uses_in true set) run-second.passed [] (uses_in true set) refl (uses_in false other) (known-to false true ruled-second) in
          (run.passed, schema-is ∙ sym run-second.schema ∙ sym run.schema)

pub schemas-kept : RunLaws → KnownKeysKeepSchemas
schemas-kept laws named schema set other base strata inferred made each = record {
  first = set-first laws schema set base strata made named inferred other each;
  second = set-second laws schema set base strata made named inferred other each;
}

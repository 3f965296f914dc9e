-- Which tests the plans of statements ask: those of their elements and of their conditions.
use Rattle.std.proofs.Common.{◌≡◌, List, [], ◌∷◌, Bool, true, false, refl, if◌then◌else◌, Option, Some, None}
use Rattle.std.specs.Prelude.{⊤, All, Any, Contains}
use Rattle.std.proofs.lemmas.List.Elements.{All-contains_itself}
use Rattle.wildcard_lang.specs.declared.piece.Piece.{Piece}
use Rattle.policy_model.specs.Conditions.{conds_of, kind_at}
use Rattle.policy_model.specs.Operators.{cond_of, is_negated, is_null}
use Rattle.policy_model.specs.declared.matcher.Matcher.{Matcher}
use Rattle.policy_model.specs.declared.principal.Entry.{Entry}
use Rattle.policy_model.specs.declared.operator.Condition.{Condition}
use Rattle.policy_model.specs.declared.operator.Operand.{Operand}
use Rattle.policy_model.specs.declared.operator.Operand.TheVariants as operand
use Rattle.policy_model.specs.declared.operator.Quantifier.{Quantifier}
use Rattle.policy_model.specs.declared.operator.Quantifier.TheVariants.{Plain, ForAll, ForAny}
use Rattle.policy_model.specs.declared.schema.Schema.{Schema}
use Rattle.policy_model.specs.declared.set.Statement.{Statement}
use Rattle.policy_model.specs.declared.test.Test.{Test}
use Rattle.policy_model.specs.declared.test.Test.TheVariants.{Principal, Action, Resource, Present, SomeMeets, SomeMeetsNone}
use Rattle.policy_compile.specs.declared.elements.RequestWord.TheVariants as word
use Rattle.policy_compile.specs.Asked.{ConditionAsks, IsAskedBy}
use Rattle.policy_compile.specs.Conditions.{absent_plan, condition_plan, conditions_plan, group_plan, meets_plan, meets_plans, null_plan, null_plans, nulls_plans, operator_groups, operator_plan, optional_plans, presence_plan, present_plan, quantified_plan, some_meets_none}
use Rattle.policy_compile.specs.Plans.{Plan, ask, of_plans, one_of, tests_in}
use Rattle.policy_compile.specs.Sets.{entry_plans, pattern_plans, patterns_plan, principal_plan, resource_plan, some_or_none, statement_plan}
use Rattle.policy_compile.proofs.Each.{Each, each-items, each-more, each-none, each-one}
use Rattle.policy_compile.proofs.Grouping.{groups-all}

-- ---- the tests of one key

module _ (schema : Schema) (c : Condition) where
  abbrev Own : Test → Type 0
  Own t = ConditionAsks schema t c

  asks-present : Each Own (present_plan c ∷ [])
  asks-present = each-one Own (Present c.key) refl

  asks-presence : (is_absent : Bool) → Each Own (presence_plan c is_absent ∷ [])
  asks-presence true = asks-present
  asks-presence false = asks-present

  asks-null-operand : (o : Operand) → Each Own (null_plans c o)
  asks-null-operand (operand.Truth is_absent) = asks-presence is_absent
  asks-null-operand (operand.Pattern p) = each-none Own
  asks-null-operand (operand.Number n) = each-none Own
  asks-null-operand (operand.Block block) = each-none Own
  asks-null-operand (operand.Bytes bytes) = each-none Own

  asks-nulls : Each Own (nulls_plans c)
  asks-nulls = each-items Own (null_plans c) (λ o. ⊤) (λ o any. asks-null-operand o) c.values (λ i o within. tt)

  asks-meets : is_null c.operator.base ≡ false → Each Own (meets_plans (kind_at schema c.key) c)
  asks-meets other =
      each-items Own (λ o. meets_plan (kind_at schema c.key) c o ∷ []) (Contains c.values)
      (λ o at. each-one Own (SomeMeets c.key (cond_of (kind_at schema c.key) c.operator.base o)) (record { key_is = refl; compares = other; value = (at.0, o, at.1, at.2, refl) })) c.values (All-contains_itself c.values)

  asks-meets_none : is_null c.operator.base ≡ false → Each Own (some_meets_none (kind_at schema c.key) c ∷ [])
  asks-meets_none other = each-one Own (SomeMeetsNone c.key (conds_of (kind_at schema c.key) c)) (record { key_is = refl; compares = other; values = refl })

  asks-quantified : is_null c.operator.base ≡ false → (q : Quantifier) (negated : Bool) → All Own (tests_in (quantified_plan q negated (kind_at schema c.key) c))
  asks-quantified other Plain false = asks-meets other
  asks-quantified other Plain true = asks-meets other
  asks-quantified other ForAll false = asks-meets_none other
  asks-quantified other ForAll true = asks-meets other
  asks-quantified other ForAny false = asks-meets other
  asks-quantified other ForAny true = asks-meets_none other

  asks-operator-by : (n : Bool) → is_null c.operator.base ≡ n →
      All Own (tests_in (if n then null_plan c else quantified_plan c.operator.quantifier (is_negated c.operator.base) (kind_at schema c.key) c))
  asks-operator-by true is = asks-nulls
  asks-operator-by false is = asks-quantified is c.operator.quantifier (is_negated c.operator.base)

  asks-operator : All Own (tests_in (operator_plan (kind_at schema c.key) c))
  asks-operator = asks-operator-by (is_null c.operator.base) refl

  asks-optional : (optional : Bool) → All Own (tests_in (if optional then one_of (of_plans (optional_plans (kind_at schema c.key) c)) else operator_plan (kind_at schema c.key) c))
  asks-optional true =
      each-more Own (absent_plan c) (operator_plan (kind_at schema c.key) c ∷ []) asks-present
      (each-more Own (operator_plan (kind_at schema c.key) c) [] asks-operator (each-none Own))
  asks-optional false = asks-operator

  asks-condition : All Own (tests_in (condition_plan schema c))
  asks-condition = asks-optional c.operator.if_exists

-- ---- the tests of a statement's conditions

-- some of the conditions asks the test
abbrev SomeAsks : Schema → List Condition → Test → Type 0
SomeAsks schema cs t = Any (ConditionAsks schema t) cs

one-asks : (schema : Schema) (cs : List Condition) (c : Condition) → Contains cs c → Each (SomeAsks schema cs) (condition_plan schema c ∷ [])
one-asks schema cs c at =
    each-more (SomeAsks schema cs) (condition_plan schema c) [] (λ i t within. (at.0, c, at.1, at.2, asks-condition schema c i t within)) (each-none (SomeAsks schema cs))

group-asks : (schema : Schema) (cs group : List Condition) → All (Contains cs) group → Each (SomeAsks schema cs) (group_plan schema group ∷ [])
group-asks schema cs group among =
    each-more (SomeAsks schema cs) (group_plan schema group) []
    (each-items (SomeAsks schema cs) (λ c. condition_plan schema c ∷ []) (Contains cs) (one-asks schema cs) group among) (each-none (SomeAsks schema cs))

conditions-ask : (schema : Schema) (cs : List Condition) → All (SomeAsks schema cs) (tests_in (conditions_plan schema cs))
conditions-ask schema cs =
    each-items (SomeAsks schema cs) (λ group. group_plan schema group ∷ []) (λ group. All (Contains cs) group) (group-asks schema cs) (operator_groups cs) ((groups-all (Contains cs) cs).1 (All-contains_itself cs))

-- ---- the tests of a statement

none-asks : {T : Type 0} (xs : List T) → ¬ Any (λ x. ⊥) xs
none-asks xs h = h.4

condition-of : (schema : Schema) (s : Statement) (t : Test) → Any (ConditionAsks schema t) s.conditions → IsAskedBy schema t s
condition-of schema s (Principal entry) h = absurd (none-asks s.conditions h)
condition-of schema s (Action pattern) h = absurd (none-asks s.conditions h)
condition-of schema s (Resource pattern) h = absurd (none-asks s.conditions h)
condition-of schema s (Present key) h = h
condition-of schema s (SomeMeets key asked) h = h
condition-of schema s (SomeMeetsNone key asked) h = h

either-each : (P : Test → Type 0) (n : Bool) (ps : List Plan) → Each P ps → All P (tests_in (some_or_none n ps))
either-each P true ps h = h
either-each P false ps h = h

module _ (schema : Schema) (s : Statement) where
  abbrev Here : Test → Type 0
  Here t = IsAskedBy schema t s

  principal-asks : (element : Option (Matcher Entry)) → s.principal ≡ element → All Here (tests_in (principal_plan element))
  principal-asks None is = each-none Here
  principal-asks (Some m) is =
      either-each Here m.not (entry_plans m.items)
      (each-items Here (λ e. ask (Principal e) ∷ []) (Contains m.items) (λ e at. each-one Here (Principal e) (rw is at)) m.items (All-contains_itself m.items))

  action-asks : All Here (tests_in (patterns_plan word.Action s.action))
  action-asks =
      either-each Here s.action.not (pattern_plans word.Action s.action.items)
      (each-items Here (λ p. ask (Action p) ∷ []) (Contains s.action.items) (λ p at. each-one Here (Action p) at) s.action.items (All-contains_itself s.action.items))

  resource-asks : (element : Option (Matcher (List Piece))) → s.resource ≡ element → All Here (tests_in (resource_plan element))
  resource-asks None is = each-none Here
  resource-asks (Some m) is =
      either-each Here m.not (pattern_plans word.Resource m.items)
      (each-items Here (λ p. ask (Resource p) ∷ []) (Contains m.items) (λ p at. each-one Here (Resource p) (rw is at)) m.items (All-contains_itself m.items))

  conditions-here : All Here (tests_in (conditions_plan schema s.conditions))
  conditions-here = λ i t within. condition-of schema s _ (conditions-ask schema s.conditions i t within)

  -- each test of the statement's plan is asked by the statement
  pub statement-asks : All Here (tests_in (statement_plan schema s))
  statement-asks =
      let conditions = conditions_plan schema s.conditions in
      each-more Here (principal_plan s.principal) (patterns_plan word.Action s.action ∷ resource_plan s.resource ∷ conditions ∷ []) (principal-asks s.principal refl)
      (each-more Here (patterns_plan word.Action s.action) (resource_plan s.resource ∷ conditions ∷ []) action-asks
      (each-more Here (resource_plan s.resource) (conditions ∷ []) (resource-asks s.resource refl)
      (each-more Here conditions [] conditions-here (each-none Here))))

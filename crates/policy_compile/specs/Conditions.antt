-- The plans of conditions: what the conditions of a statement ask of a request, in tests and their negations.
use Rattle.std.specs.Prelude.{List, [], ◌∷◌, Bool, true, false, if◌then◌else◌}
use Rattle.std.specs.List.{flat_map}
use Rattle.policy_model.specs.Conditions.{conds_of, kind_at}
use Rattle.policy_model.specs.Operators.{cond_of, is_negated, is_null}
use Rattle.policy_model.specs.contracts.operator.OperatorPartialEq.TheImpl as equal_operators
use Rattle.policy_model.specs.declared.value.Kind.{Kind}
use Rattle.policy_model.specs.declared.operator.Quantifier.{Quantifier}
use Rattle.policy_model.specs.declared.operator.Quantifier.TheVariants.{Plain, ForAll, ForAny}
use Rattle.policy_model.specs.declared.operator.Operand.{Operand}
use Rattle.policy_model.specs.declared.operator.Operand.TheVariants as operand
use Rattle.policy_model.specs.declared.operator.Condition.{Condition}
use Rattle.policy_model.specs.declared.schema.Schema.{Schema}
use Rattle.policy_model.specs.declared.test.Test.TheVariants.{Present, SomeMeets, SomeMeetsNone}
use Rattle.policy_compile.specs.Plans.{Plan, ask, not, all, one_of, of_plans}

-- ---- one key of an operator

-- the key has a value, and it has none
abbrev pub present_plan : Condition → Plan
present_plan c = ask (Present c.key)

abbrev pub absent_plan : Condition → Plan
absent_plan c = not (present_plan c)

-- some value of the key meets what a value of the policy asks
abbrev pub meets_plan : Kind → Condition → Operand → Plan
meets_plan k c o = ask (SomeMeets c.key (cond_of k c.operator.base o))

-- the same for each value of the policy
abbrev pub meets_plans : Kind → Condition → List Plan
meets_plans k c = flat_map (λ o. meets_plan k c o ∷ []) c.values

-- some value of the key meets some of what is asked
abbrev pub some_meets : Kind → Condition → Plan
some_meets k c = one_of (of_plans (meets_plans k c))

-- some value of the key meets none of what is asked
abbrev pub some_meets_none : Kind → Condition → Plan
some_meets_none k c = ask (SomeMeetsNone c.key (conds_of k c))

-- by the prefix of the operator, and by whether it is negated
abbrev pub quantified_plan : Quantifier → Bool → Kind → Condition → Plan
quantified_plan Plain false k c = some_meets k c
quantified_plan Plain true k c = not (some_meets k c)
quantified_plan ForAll false k c = not (some_meets_none k c)
quantified_plan ForAll true k c = not (some_meets k c)
quantified_plan ForAny false k c = some_meets k c
quantified_plan ForAny true k c = some_meets_none k c

-- the key is absent, or it isn't
abbrev pub presence_plan : Condition → Bool → Plan
presence_plan c true = absent_plan c
presence_plan c false = present_plan c

-- a `Null` asks for each of its values whether the key is absent, or whether it isn't
abbrev pub null_plans : Condition → Operand → List Plan
null_plans c (operand.Truth is_absent) = presence_plan c is_absent ∷ []
null_plans c o = []

abbrev pub nulls_plans : Condition → List Plan
nulls_plans c = flat_map (null_plans c) c.values

abbrev pub null_plan : Condition → Plan
null_plan c = one_of (of_plans (nulls_plans c))

-- the condition without `IfExists`
abbrev pub operator_plan : Kind → Condition → Plan
operator_plan k c =
    (if is_null c.operator.base then null_plan c else quantified_plan c.operator.quantifier (is_negated c.operator.base) k c)

-- the key is absent, or the operator holds
abbrev pub optional_plans : Kind → Condition → List Plan
optional_plans k c = absent_plan c ∷ operator_plan k c ∷ []

-- with `IfExists` the key may be absent
abbrev pub condition_plan : Schema → Condition → Plan
condition_plan schema c =
    (if c.operator.if_exists then one_of (of_plans (optional_plans (kind_at schema c.key) c)) else operator_plan (kind_at schema c.key) c)

-- ---- the conditions of a statement

-- whether two conditions have the same operator
abbrev pub same_operator : Condition → Condition → Bool
same_operator c d = equal_operators.eq-value.it c.operator d.operator

-- a condition before groups: it joins the first one where that begins with the same operator, and is a group of its own otherwise
abbrev pub join_group : Condition → List (List Condition) → List (List Condition)
join_group c [] = (c ∷ []) ∷ []
join_group c ([] ∷ groups) = (c ∷ []) ∷ groups
join_group c ((d ∷ ds) ∷ groups) = (if same_operator c d then (c ∷ d ∷ ds) ∷ groups else (c ∷ []) ∷ (d ∷ ds) ∷ groups)

-- the conditions in their order, as groups: neighbours are in one group where they have the same operator
abbrev pub operator_groups : List Condition → List (List Condition)
operator_groups [] = []
operator_groups (c ∷ cs) = join_group c (operator_groups cs)

-- a group is one operator, which asks for each of its keys
abbrev pub group_plans : Schema → List Condition → List Plan
group_plans schema group = flat_map (λ c. condition_plan schema c ∷ []) group

abbrev pub group_plan : Schema → List Condition → Plan
group_plan schema group = all (of_plans (group_plans schema group))

-- a statement asks for each of its operators
abbrev pub operator_plans : Schema → List Condition → List Plan
operator_plans schema cs = flat_map (λ group. group_plan schema group ∷ []) (operator_groups cs)

abbrev pub conditions_plan : Schema → List Condition → Plan
conditions_plan schema cs = all (of_plans (operator_plans schema cs))

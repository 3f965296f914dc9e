-- The schema of a run: the named keys, which are those of the schema file over the built-in ones, and each further key that the run's
-- sets use, with a kind and a number of values that follow from all operators on it. How they follow is this project's own choice.
use Rattle.std.specs.Prelude.{◌≡◌, ⊤, ℕ, List, [], ◌∷◌, map, Bool, true, false, not, ◌&&◌, is_none, Option, Some, None, Result, Ok, Err, filter, unwrap_or, option_map, if◌then◌else◌}
use Rattle.std.specs.List.{flat_map, list_all}
use Rattle.text_table.specs.Table.{Entries, item_at}
use Rattle.policy_model.specs.declared.operator.Family.{Family}
use Rattle.policy_model.specs.declared.operator.Family.TheVariants as family
use Rattle.policy_model.specs.declared.operator.Operator.{Operator}
use Rattle.policy_model.specs.declared.schema.KeyRule.{KeyRule}
use Rattle.policy_model.specs.declared.schema.Schema.{Schema}
use Rattle.policy_model.specs.declared.set.PolicySet.{PolicySet}
use Rattle.policy_model.specs.declared.value.Kind.{Kind}
use Rattle.policy_model.specs.declared.value.Kind.TheVariants as kind
use Rattle.policy_model.specs.Operators.{is_null, takes_family}
use Rattle.json_shapes.specs.Checks.{Check, first_fault}
use Rattle.request_schema.specs.BuiltIn.{NamedRule, plain_rule, with_rules}
use Rattle.request_schema.specs.Uses.{Use, comparing_uses, is_bool, is_plain, of_key, use_family, uses_of}
use Rattle.request_schema.specs.declared.infer_fault.InferFault.{InferFault}
use Rattle.request_schema.specs.declared.infer_fault.InferAnswer.{InferAnswer}
use Rattle.request_schema.specs.declared.infer_fault.InferAnswer.TheVariants.{Refused, NoMemory}

-- ---- further keys

-- the kind that takes all operators of a family's group: String, Arn and Bool; Numeric and Date; addresses; bytes
abbrev pub group_kind : Family → Kind
group_kind family.Text = kind.Text
group_kind family.Arn = kind.Text
group_kind family.Bool = kind.Text
group_kind family.Null = kind.Text
group_kind family.Numeric = kind.Number
group_kind family.Date = kind.Number
group_kind family.Address = kind.Address
group_kind family.Binary = kind.Bytes

-- the kind that the first of these uses fixes for the others; without a use, text
abbrev pub fixed_kind : List Use → Kind
fixed_kind [] = kind.Text
fixed_kind (u ∷ us) = group_kind (use_family u)

-- all of the uses are of `Bool`, and there is one
abbrev pub are_bools : List Use → Bool
are_bools [] = false
are_bools (u ∷ us) = list_all (λ v. is_bool (use_family v)) (u ∷ us)

-- what the uses that compare a key's values make of it: the kind of their group, truth where all are `Bool`, and several values
-- where each has a prefix. So a key with `Null` alone is a text key with several values
abbrev pub kind_from : List Use → Kind
kind_from us = (if are_bools us then kind.Truth else fixed_kind us)

abbrev pub many_from : List Use → Bool
many_from us = list_all (λ u. not (is_plain u.condition.operator.quantifier)) us

abbrev pub rule_from : List Use → KeyRule
rule_from us = plain_rule (kind_from us) (many_from us)

-- ---- the schema

-- no named key is the use's
abbrev pub is_further : Entries KeyRule → Use → Bool
is_further keys u = is_none (item_at u.condition.key keys)

-- the further keys, each as often as it is used
abbrev pub further_rules : Entries KeyRule → List Use → List NamedRule
further_rules keys uses =
    map (λ u. (u.condition.key, rule_from (comparing_uses u.condition.key uses))) (filter (is_further keys) uses)

abbrev pub schema_for : Schema → List Use → Schema
schema_for named uses = record { version = named.version; keys = with_rules named.keys (further_rules named.keys uses); shapes = named.shapes }

-- the schema of a run under named keys on one set, or on two
unfoldable pub schema_of_run : Schema → PolicySet → Option PolicySet → Schema
schema_of_run named first second = schema_for named (uses_of first second)

-- it is the schema of the run
abbrev pub RunSchema : Schema → PolicySet → Option PolicySet → Schema → Type 0
RunSchema named first second schema = schema ≡ schema_of_run named first second

-- the rule of a key in a run: that of the named key, or what its uses make of it, or none where no set uses it
abbrev pub rule_in_use : List Use → List Use → Option KeyRule
rule_in_use [] deciding = None
rule_in_use (u ∷ us) deciding = Some (rule_from deciding)

abbrev pub run_rule : Schema → List Use → List ℕ → Option KeyRule
run_rule named uses key = (if is_none (item_at key named.keys) then rule_in_use (of_key key uses) (comparing_uses key uses)
    else item_at key named.keys)

-- ---- its fault

-- the kind that a use has to fit: that of a named key, or what the uses of a further key fix
abbrev pub expected_kind : Schema → Kind → Use → Kind
expected_kind named fixed u = unwrap_or (option_map (λ rule. rule.kind) (item_at u.condition.key named.keys)) fixed

-- a named key that has several values; a further key has several only where no plain operator is on it
abbrev pub is_named_plural : Schema → Use → Bool
is_named_plural named u = unwrap_or (option_map (λ rule. rule.many) (item_at u.condition.key named.keys)) false

-- an operator without a prefix but `Null` asks for a single value
abbrev pub asks_one : Operator → Bool
asks_one o = is_plain o.quantifier && not (is_null o.base)

abbrev pub UseCheck : Type 0
UseCheck = Check InferFault

-- the fault at a use
abbrev pub infer_fault_at : Use → Bool → InferFault
infer_fault_at u plural = record { second = u.second; plural = plural; name = u.name; key = u.condition.written }

abbrev pub use_check : Use → Bool → Bool → UseCheck
use_check u passes plural = record { passes = passes; fault = infer_fault_at u plural }

-- the kind takes the operator, and then the key has one value where the operator asks for one
abbrev pub use_checks : Schema → Kind → Use → List UseCheck
use_checks named fixed u =
    use_check u (takes_family (expected_kind named fixed u) (use_family u)) false ∷
    use_check u (not (is_named_plural named u && asks_one u.condition.operator)) true ∷ []

-- each use in reading order, where the first use that compares values of a further key fixes the kinds that others may have
abbrev pub checks_among : Schema → List Use → Use → List UseCheck
checks_among named uses u = use_checks named (fixed_kind (comparing_uses u.condition.key uses)) u

abbrev pub infer_checks : Schema → List Use → List UseCheck
infer_checks named uses = flat_map (checks_among named uses) uses

-- the first fault of a run, or none
unfoldable pub infer_fault : Schema → PolicySet → Option PolicySet → Option InferFault
infer_fault named first second = first_fault (infer_checks named (uses_of first second))

abbrev pub FirstInferFault : Schema → PolicySet → Option PolicySet → InferFault → Type 0
FirstInferFault named first second fault = infer_fault named first second ≡ Some fault

-- what the inference answers: the schema of the run where there is no fault, and otherwise the first fault, besides want of memory
abbrev pub IsInferred : Schema → PolicySet → Option PolicySet → Result Schema InferAnswer → Type 0
IsInferred named first second (Ok schema) = (infer_fault named first second ≡ None) × RunSchema named first second schema
IsInferred named first second (Err (Refused fault)) = FirstInferFault named first second fault
IsInferred named first second (Err NoMemory) = ⊤

-- ---- laws

-- each key has the rule that is said of it, so the schema doesn't depend on the order of uses but where kinds clash
abbrev pub KeysHaveTheirRules : Type 0
KeysHaveTheirRules =
    (named : Schema) (first : PolicySet) (second : Option PolicySet) (key : List ℕ)
    → item_at key (schema_of_run named first second).keys ≡ run_rule named (uses_of first second) key

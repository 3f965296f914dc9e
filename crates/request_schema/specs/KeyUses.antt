-- What the uses of each key come to, in the form in which the inference keeps it.
use Rattle.std.specs.Prelude.{◌≡◌, ⊤, ℕ, List, [], ◌∷◌, map, true, not, ◌&&◌, filter, Option, Some, None, Result, Ok, Err, if◌then◌else◌}
use Rattle.text_table.specs.Table.{Entries, item_at, with_item}
use Rattle.policy_model.specs.declared.operator.Condition.{Condition}
use Rattle.policy_model.specs.declared.operator.Operator.{Operator}
use Rattle.policy_model.specs.declared.schema.KeyRule.{KeyRule}
use Rattle.policy_model.specs.declared.schema.Schema.{Schema}
use Rattle.policy_model.specs.declared.value.Kind.{Kind}
use Rattle.policy_model.specs.declared.value.Kind.TheVariants as kind
use Rattle.policy_model.specs.Operators.{family_of, is_null}
use Rattle.json_shapes.specs.Checks.{first_fault}
use Rattle.request_schema.specs.BuiltIn.{NamedRule, plain_rule}
use Rattle.request_schema.specs.RunSchemas.{UseCheck, are_bools, group_kind, is_further, many_from, use_checks}
use Rattle.request_schema.specs.Uses.{Use, comparing_uses, is_bool, is_plain, use_family}
use Rattle.request_schema.specs.declared.infer_fault.InferFault.{InferFault}
use Rattle.request_schema.specs.declared.infer_fault.InferAnswer.{InferAnswer}
use Rattle.request_schema.specs.declared.infer_fault.InferAnswer.TheVariants.{Refused, NoMemory}
use Rattle.request_schema.specs.declared.key_use.KeyUse.{KeyUse}

-- what uses that compare a key's values come to, where there are some
abbrev pub key_use : List Use → Option KeyUse
key_use [] = None
key_use (u ∷ us) = Some (record { first = use_family u; bools = are_bools (u ∷ us); prefixed = many_from (u ∷ us) })

-- with one more
abbrev pub more_use : Option KeyUse → Operator → KeyUse
more_use None o = record { first = family_of o.base; bools = is_bool (family_of o.base); prefixed = not (is_plain o.quantifier) }
more_use (Some k) o = record {
  first = k.first;
  bools = k.bools && is_bool (family_of o.base);
  prefixed = k.prefixed && not (is_plain o.quantifier);
}

-- the table with a condition of one more use
abbrev pub with_use : Entries KeyUse → Condition → Entries KeyUse
with_use table c =
    (if is_null c.operator.base then table else with_item table c.key (more_use (item_at c.key table) c.operator))

-- the table has what the uses of each key come to
abbrev pub Summarises : List Use → Entries KeyUse → Type 0
Summarises uses table = (key : List ℕ) → item_at key table ≡ key_use (comparing_uses key uses)

-- the kind that the uses fix for one another, and the rule that they make
abbrev pub kind_fixed : Option KeyUse → Kind
kind_fixed None = kind.Text
kind_fixed (Some k) = group_kind k.first

abbrev pub rule_made : Option KeyUse → KeyRule
rule_made None = plain_rule kind.Text true
rule_made (Some k) = plain_rule (if k.bools then kind.Truth else group_kind k.first) k.prefixed

-- the checks of a use by the table
abbrev pub checks_by : Schema → Entries KeyUse → Use → List UseCheck
checks_by named table u = use_checks named (kind_fixed (item_at u.condition.key table)) u

-- what a reader of uses answers: nothing where all checks are passed, and otherwise the first fault, besides want of memory
abbrev pub AreUsesPassed : List UseCheck → Result ⊤ InferAnswer → Type 0
AreUsesPassed checks (Ok x) = first_fault checks ≡ None
AreUsesPassed checks (Err (Refused fault)) = first_fault checks ≡ Some fault
AreUsesPassed checks (Err NoMemory) = ⊤

-- the answer is a refusal with this fault, or want of memory
abbrev pub IsInferRefusal : InferFault → InferAnswer → Type 0
IsInferRefusal fault (Refused given) = given ≡ fault
IsInferRefusal fault NoMemory = ⊤

-- the rules of further keys by the table, each as often as the key is used
abbrev pub rules_by : Entries KeyRule → Entries KeyUse → List Use → List NamedRule
rules_by keys table uses =
    map (λ u. (u.condition.key, rule_made (item_at u.condition.key table))) (filter (is_further keys) uses)

-- the rules with that of a use's key, where it is a further one
abbrev pub with_further : Entries KeyRule → Entries KeyUse → Entries KeyRule → Use → Entries KeyRule
with_further keys table rules u =
    (if is_further keys u then with_item rules u.condition.key (rule_made (item_at u.condition.key table)) else rules)

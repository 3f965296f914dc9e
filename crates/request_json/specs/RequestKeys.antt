-- The keys of a request file under a schema: what is checked of each, and what they stand for. A key that the schema lacks is left out,
-- so that a request can be tried on a run that has fewer keys.
use Rattle.std.specs.Prelude.{ℕ, ◌==◌, List, [], ◌∷◌, length, map, Bool, true, false}
use Rattle.std.specs.Prelude.{◌&&◌, ◌||◌, not, nat_le, is_some, bytes_eq, Option, Some, None}
use Rattle.std.specs.Bool.{beq}
use Rattle.std.specs.Ordering.{int_eq}
use Rattle.std.specs.List.{flat_map, list_all, list_any}
use Rattle.serde_json.specs.Data.{Data}
use Rattle.json_shapes.specs.Json.{one_or_more}
use Rattle.text_table.specs.Table.{Entries, item_at, with_item}
use Rattle.wildcard_lang.specs.Accepts.{accepts}
use Rattle.wildcard_lang.specs.declared.piece.Piece.{Piece}
use Rattle.policy_model.specs.declared.schema.KeyRule.{KeyRule}
use Rattle.policy_model.specs.declared.value.Value.{Value}
use Rattle.policy_model.specs.declared.value.Value.TheVariants.{Word}
use Rattle.policy_model.specs.declared.value.Value.TheVariants.{Truth, Number, Address, Bytes}
use Rattle.cidr_bits.specs.declared.address.Address as address
use Rattle.cidr_bits.specs.declared.address.Address.TheVariants.{V4, V6}
use Rattle.request_schema.specs.BuiltIn.{folded_name}
use Rattle.request_schema.specs.SchemaRules.{are_of_kind, string_in, values_of_kind}
use Rattle.request_json.specs.RequestChecks.{RequestCheck, request_check}
use Rattle.request_json.specs.declared.fault.RequestCode.TheVariants.{Q3BadValue, Q4NotValid}

-- the texts of a key's values: a string alone is one
abbrev pub texts_at : Data → List (List ℕ)
texts_at d = map string_in (one_or_more d)

-- ---- what a rule asks of values, as tests (`PermitsValues` of the model says the same)

abbrev pub fits_shape : Option (List Piece) → List ℕ → Bool
fits_shape None t = true
fits_shape (Some shape) t = accepts shape t

abbrev pub value_fits : Option (List Piece) → Value → Bool
value_fits shape (Word t) = fits_shape shape t
value_fits shape v = true

-- whether two addresses, and two values, are the same
abbrev pub same_address : address.Address → address.Address → Bool
same_address (V4 n) (V4 m) = n == m
same_address (V6 n) (V6 m) = n == m
same_address a b = false

abbrev pub is_same_value : Value → Value → Bool
is_same_value (Word t) (Word u) = bytes_eq t u
is_same_value (Truth a) (Truth b) = beq a b
is_same_value (Number n) (Number m) = int_eq n m
is_same_value (Address a) (Address b) = same_address a b
is_same_value (Bytes bs) (Bytes cs) = bytes_eq bs cs
is_same_value v w = false

abbrev pub is_listed : Option (List Value) → Value → Bool
is_listed None v = true
is_listed (Some listed) v = list_any (is_same_value v) listed

-- at most one value, where the key isn't given several
abbrev pub is_count : KeyRule → List Value → Bool
is_count rule vs = rule.many || nat_le (length vs) 1

-- each value matches the shape and is listed, and there is one where one is asked
abbrev pub are_permitted : KeyRule → List Value → Bool
are_permitted rule vs = is_count rule vs && list_all (λ v. value_fits rule.shape v && is_listed rule.among v) vs

-- ---- checks

-- a key of the schema: its values are of the kind, and then the rule permits them
abbrev pub request_key_checks : KeyRule → List ℕ × Data → List RequestCheck
request_key_checks rule key =
    request_check (are_of_kind rule.kind (texts_at key.1)) Q3BadValue key.0 ∷
    request_check (are_permitted rule (values_of_kind rule.kind (texts_at key.1))) Q4NotValid key.0 ∷ []

-- a key of the file, by the rule that the schema has for it
abbrev pub checks_by_rule : Option KeyRule → List ℕ × Data → List RequestCheck
checks_by_rule None key = []
checks_by_rule (Some rule) key = request_key_checks rule key

abbrev pub rule_at : Entries KeyRule → List ℕ → Option KeyRule
rule_at keys name = item_at (folded_name name) keys

abbrev pub context_checks : Entries KeyRule → List (List ℕ × Data) → List RequestCheck
context_checks keys pairs = flat_map (λ key. checks_by_rule (rule_at keys key.0) key) pairs

-- ---- what they stand for

-- the values of a key
abbrev pub values_read : KeyRule → Data → List Value
values_read rule d = values_of_kind rule.kind (texts_at d)

-- the entries with a key's values; a key without values is as one that is missing
abbrev pub with_values : Entries (List Value) → List ℕ → List Value → Entries (List Value)
with_values entries name [] = entries
with_values entries name (v ∷ vs) = with_item entries name (v ∷ vs)

abbrev pub with_key : Option KeyRule → Entries (List Value) → List ℕ × Data → Entries (List Value)
with_key None entries key = entries
with_key (Some rule) entries key = with_values entries (folded_name key.0) (values_read rule key.1)

abbrev pub context_from : Entries KeyRule → Entries (List Value) → List (List ℕ × Data) → Entries (List Value)
context_from keys entries [] = entries
context_from keys entries (key ∷ more) = context_from keys (with_key (rule_at keys key.0) entries key) more

-- ---- required keys

-- a key that is required has a value, at its folded name, in the order of these
abbrev pub required_check : Entries (List Value) → List ℕ × KeyRule → RequestCheck
required_check context entry =
    record { passes = not entry.1.required || is_some (item_at entry.0 context); fault = record { code = Q4NotValid; element = entry.0 } }

abbrev pub required_checks : Entries KeyRule → Entries (List Value) → List RequestCheck
required_checks keys context = map (required_check context) keys

-- keys have a value each, in the order of these: of the required ones that is the same as `required_checks` of all
abbrev pub presence_check : Entries (List Value) → List ℕ → RequestCheck
presence_check context key = record { passes = is_some (item_at key context); fault = record { code = Q4NotValid; element = key } }

abbrev pub presence_checks : Entries (List Value) → List (List ℕ) → List RequestCheck
presence_checks context keys = map (presence_check context) keys

-- The keys of a schema file: what is checked of each, in this order, and the rule that it stands for. One table is for both versions:
-- in version 1 a key has at most a kind and `Many`, so that the checks of what else stands are passed.
use Rattle.std.specs.Prelude.{◌≡◌, ⊤, ℕ, List, [], ◌∷◌, ◌++◌, length, map, Bool, true, false, ◌&&◌, ◌||◌, not, nat_le, is_some, Option, Some, None, option_map, option_and_then, unwrap_or, chars, codes, bytes_eq, if◌then◌else◌}
use Rattle.std.specs.List.{list_all, list_any}
use Rattle.serde_json.specs.Data.{Data}
use Rattle.serde_json.specs.Find.{get, as_bool, as_str}
use Rattle.wildcard_lang.specs.declared.piece.Piece.{Piece}
use Rattle.wildcard_lang.specs.declared.pattern.TheConstants.{MOST_PIECES}
use Rattle.wildcard_lang.specs.Reading.{wildcards}
use Rattle.text_table.specs.Table.{Entries, item_at}
use Rattle.policy_model.specs.declared.value.Kind.{Kind}
use Rattle.policy_model.specs.declared.value.Kind.TheVariants as kind
use Rattle.policy_model.specs.declared.value.Value.{Value}
use Rattle.policy_model.specs.declared.value.Value.TheVariants.{Word}
use Rattle.policy_model.specs.declared.schema.KeyRule.{KeyRule}
use Rattle.serde_json.specs.declared.value.Value.{Value as JsonValue}
use Rattle.json_shapes.specs.Json.{has_name, values_in, views}
use Rattle.json_shapes.specs.Shapes.{is_list, is_string, is_there_and, where_there, is_object_of}
use Rattle.request_schema.specs.BuiltIn.{NamedRule, folded_name, is_key}
use Rattle.request_schema.specs.SchemaChecks.{SchemaCheck, schema_check}
use Rattle.request_schema.specs.ValueTexts.{value_written}
use Rattle.request_schema.specs.declared.schema_fault.SchemaCode.TheVariants.{S2Shape, S3UnknownKind, S4KeyTwice, S7EmptyValues, S8BadValue, S9Limit}
use Rattle.request_schema.specs.declared.rules.TheConstants.{MOST_VALUES}

-- ---- the form of a rule

-- the names that a rule may have
abbrev pub rule_names : Bool → List (List ℕ)
rule_names second =
    (if second then codes "Kind" ∷ codes "Many" ∷ codes "Required" ∷ codes "Values" ∷ codes "Shape" ∷ []
    else codes "Kind" ∷ codes "Many" ∷ [])

-- a truth value, and a list of strings
abbrev pub is_truth : Data → Bool
is_truth d = is_some (as_bool d)

abbrev pub is_list_of_strings : Data → Bool
is_list_of_strings d = is_list d && list_all is_string (values_in d)

-- a kind stands, and truth values are what they must be
abbrev pub has_kind : Data → Bool
has_kind d =
    is_there_and is_string (get (codes "Kind") d)
    && (where_there is_truth (get (codes "Many") d) && where_there is_truth (get (codes "Required") d))

-- values and a shape are of their forms, and don't stand together
abbrev pub has_limits : Data → Bool
has_limits d =
    where_there is_list_of_strings (get (codes "Values") d)
    && (where_there is_string (get (codes "Shape") d) && not (has_name (codes "Values") d && has_name (codes "Shape") d))

abbrev pub is_rule : Bool → Data → Bool
is_rule second d = is_object_of (rule_names second) d && (has_kind d && has_limits d)

-- ---- its members

-- the string that a value is (of any other value, which no check passes, the empty one); the string under a name
abbrev pub string_in : Data → List ℕ
string_in d = unwrap_or (as_str d) []

abbrev pub string_at : List ℕ → Data → Option (List ℕ)
string_at name d = option_and_then as_str (get name d)

-- a truth value under a name, or false where it is left out
abbrev pub truth_at : List ℕ → Data → Bool
truth_at name d = unwrap_or (option_and_then as_bool (get name d)) false

-- the kind of a name
abbrev pub kind_named : List ℕ → Option Kind
kind_named s =
    (if bytes_eq s (codes "text") then Some kind.Text
    else (if bytes_eq s (codes "truth") then Some kind.Truth
    else (if bytes_eq s (codes "number") then Some kind.Number
    else (if bytes_eq s (codes "address") then Some kind.Address
    else (if bytes_eq s (codes "bytes") then Some kind.Bytes else None)))))

-- the kind of a rule, or none
abbrev pub kind_in : Data → Option Kind
kind_in d = option_and_then kind_named (string_at (codes "Kind") d)

-- the same (of a rule without one, which no check passes, text)
abbrev pub kind_of_rule : Data → Kind
kind_of_rule d = unwrap_or (kind_in d) kind.Text

abbrev pub is_text_kind : Kind → Bool
is_text_kind kind.Text = true
is_text_kind k = false

-- the listed texts of a rule, where some are listed
abbrev pub listed_in : Data → Option (List (List ℕ))
listed_in d = option_map (λ values. map string_in (values_in values)) (get (codes "Values") d)

-- the strings that values are
abbrev pub strings_of : List JsonValue → List (List ℕ)
strings_of values = map string_in (views values)

-- ---- its checks

-- the keys are one, since names of keys are compared without regard to the case of ASCII letters
abbrev pub same_key : List ℕ → List ℕ → Bool
same_key a b = is_key (folded_name a) (folded_name b)

-- the text has at most as many characters as a pattern has pieces: without escapes each character is a piece
abbrev pub is_short : List ℕ → Bool
is_short s = nat_le (length (chars s)) MOST_PIECES

-- a value is listed
abbrev pub is_some_list : List (List ℕ) → Bool
is_some_list listed = nat_le 1 (length listed)

-- there are few values, and each text is short; of values that aren't texts the length isn't asked
abbrev pub are_few : Kind → List (List ℕ) → Bool
are_few k listed = nat_le (length listed) MOST_VALUES && (not (is_text_kind k) || list_all is_short listed)

-- the limits of a rule, in numbers: how many values it lists, and how many characters a text among them has
abbrev pub SchemaLimits : Type 0
SchemaLimits = (MOST_VALUES ≡ 100) × (MOST_PIECES ≡ 2048)

-- the texts are of values of the kind
abbrev pub are_of_kind : Kind → List (List ℕ) → Bool
are_of_kind k listed = list_all (λ s. is_some (value_written k s)) listed

-- a key's rule is of its form and of a known kind, a shape stands at a key of texts alone, and no earlier key of the file is the same
abbrev pub rule_form_checks : Bool → Bool → List ℕ × Data → List SchemaCheck
rule_form_checks second twice key =
    schema_check (is_rule second key.1) S2Shape key.0 ∷
    schema_check (is_some (kind_in key.1)) S3UnknownKind key.0 ∷
    schema_check (not (has_name (codes "Shape") key.1) || is_text_kind (kind_of_rule key.1)) S2Shape key.0 ∷
    schema_check (not twice) S4KeyTwice key.0 ∷ []

-- there is a listed value where some are listed, and there are few
abbrev pub listed_checks : Kind → List ℕ × Data → List SchemaCheck
listed_checks k key =
    schema_check (where_there is_some_list (listed_in key.1)) S7EmptyValues key.0 ∷
    schema_check (where_there (are_few k) (listed_in key.1)) S9Limit key.0 ∷ []

-- the shape is short
abbrev pub shape_checks : List ℕ × Data → List SchemaCheck
shape_checks key = schema_check (where_there is_short (string_at (codes "Shape") key.1)) S9Limit key.0 ∷ []

-- the listed values are of the key's kind
abbrev pub value_kind_checks : Kind → List ℕ × Data → List SchemaCheck
value_kind_checks k key = schema_check (where_there (are_of_kind k) (listed_in key.1)) S8BadValue key.0 ∷ []

-- all checks of a key, where it is known whether an earlier key of the file is the same
abbrev pub rule_checks : Bool → Bool → List ℕ × Data → List SchemaCheck
rule_checks second twice key =
    rule_form_checks second twice key ++ (listed_checks (kind_of_rule key.1) key
    ++ (shape_checks key ++ value_kind_checks (kind_of_rule key.1) key))

-- the keys one by one, behind others whose names are `before`
abbrev pub keys_checks : Bool → List (List ℕ) → List (List ℕ × Data) → List SchemaCheck
keys_checks second before [] = []
keys_checks second before (key ∷ keys) =
    rule_checks second (list_any (same_key key.0) before) key ++ keys_checks second (key.0 ∷ before) keys

-- a key of this name is noted
abbrev pub is_noted : Entries ⊤ → List ℕ → Bool
is_noted seen name = is_some (item_at (folded_name name) seen)

-- ---- what it stands for

-- the pieces of a shape, in which `*` and `?` are wildcards and nothing is an escape
abbrev pub shape_pieces : Bool → List ℕ → List Piece
shape_pieces fold s = wildcards fold (chars s)

-- the value that a text writes (of a text that isn't of the kind's form, which no check passes, the text)
abbrev pub value_of_kind : Kind → List ℕ → Value
value_of_kind k s = unwrap_or (value_written k s) (Word (chars s))

abbrev pub values_of_kind : Kind → List (List ℕ) → List Value
values_of_kind k listed = map (value_of_kind k) listed

-- the listed values of a rule, and its shape, where they are given
abbrev pub among_of : Kind → Data → Option (List Value)
among_of k d = option_map (values_of_kind k) (listed_in d)

abbrev pub shape_in : Data → Option (List Piece)
shape_in d = option_map (shape_pieces false) (string_at (codes "Shape") d)

abbrev pub rule_of : Data → KeyRule
rule_of d = record {
  kind = kind_of_rule d;
  many = truth_at (codes "Many") d;
  required = truth_at (codes "Required") d;
  among = among_of (kind_of_rule d) d;
  shape = shape_in d;
}

-- keys by their folded names, each with its rule
abbrev pub rules_of : List (List ℕ × Data) → List NamedRule
rules_of keys = map (λ key. (folded_name key.0, rule_of key.1)) keys

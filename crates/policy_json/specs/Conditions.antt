-- Conditions of a statement (IAM JSON policy reference, Condition): an object of operators, each an object of keys with their
-- values. What is checked, operator by operator in the order of their names, key by key, value by value, and what it stands for.
use Rattle.std.specs.Prelude.{◌++◌, ⊤, ◌≡◌, ℕ, List, [], ◌∷◌, map, Bool, true, false, is_some, Option, Some, None, Result, unwrap_or, chars, codes}
use Rattle.std.specs.List.{flat_map, list_all}
use Rattle.serde_json.specs.Data.{Data, null, boolean, number, string, array, object}
use Rattle.serde_json.specs.Find.{get}
use Rattle.wildcard_lang.specs.Text.{folded_text}
use Rattle.policy_model.specs.declared.operator.Base.TheVariants.{Null}
use Rattle.policy_model.specs.declared.operator.Operator.{Operator}
use Rattle.policy_model.specs.declared.operator.Quantifier.TheVariants.{Plain}
use Rattle.policy_model.specs.declared.operator.Condition.{Condition}
use Rattle.policy_json.specs.declared.fault.PolicyCode.TheVariants.{P4WrongShape, P12UnknownOperator}
use Rattle.policy_json.specs.declared.location.Location.{Location}
use Rattle.policy_json.specs.declared.operands.KeyLocation.{KeyLocation}
use Rattle.policy_json.specs.Checks.{PolicyCheck, check, PolicyAnswer}
use Rattle.json_shapes.specs.Json.{one_or_more, pairs_in}
use Rattle.json_shapes.specs.Shapes.{is_object}
use Rattle.policy_json.specs.OperatorNames.{operator_of, operator_with}
use Rattle.policy_json.specs.Operands.{operand_of, value_checks}
use Rattle.json_shapes.specs.Checks.{IsReadOf}

-- ---- what is checked

-- the value is a string, a boolean or a number
abbrev pub is_single : Data → Bool
is_single null = false
is_single (boolean b) = true
is_single (number x) = true
is_single (string s) = true
is_single (array ds) = false
is_single (object ms) = false

-- the value is such a value, or a list of such values, which may be empty
abbrev pub are_single : Data → Bool
are_single d = list_all is_single (one_or_more d)

-- the operator of a name (of a name that no operator has, which no check passes, any)
abbrev pub operator_named : List ℕ → Operator
operator_named name = unwrap_or (operator_of name) (operator_with Null Plain false)

-- a key has a value or a list of values, and then each value is checked; the element is the key as written
abbrev pub key_checks : Location → Operator → Bool → List ℕ × Data → List PolicyCheck
key_checks location o escapes key =
    check location (are_single key.1) P4WrongShape key.0 ∷
    flat_map (value_checks location key.0 o.base escapes) (one_or_more key.1)

-- an operator has the name of one, and its value is an object, whose keys are checked in the order of their names
abbrev pub operator_checks : Location → Bool → List ℕ × Data → List PolicyCheck
operator_checks location escapes named =
    check location (is_some (operator_of named.0)) P12UnknownOperator named.0 ∷
    check location (is_object named.1) P4WrongShape named.0 ∷
    flat_map (key_checks location (operator_named named.0) escapes) (pairs_in named.1)

-- the element, where it is there, is an object, whose operators are checked in the order of their names
abbrev pub condition_checks : Location → Bool → Option Data → List PolicyCheck
condition_checks location escapes None = []
condition_checks location escapes (Some d) =
    check location (is_object d) P4WrongShape (codes "Condition") ∷ flat_map (operator_checks location escapes) (pairs_in d)

-- ---- what it stands for

-- a key under an operator, with its values. Keys are compared without regard to the case of ASCII letters; the key as written stands
-- beside, for faults
abbrev pub condition_of : Operator → Bool → List ℕ × Data → Condition
condition_of o escapes key = record {
  operator = o;
  key = folded_text (chars key.0);
  written = chars key.0;
  values = map (operand_of o.base escapes) (one_or_more key.1);
}

-- the conditions of an operator: one for each of its keys, in the order of their names
abbrev pub conditions_under : Bool → List ℕ × Data → List Condition
conditions_under escapes named = map (condition_of (operator_named named.0) escapes) (pairs_in named.1)

-- the conditions of a statement: those of its operators, in the order of their names; none where it has no such element
abbrev pub conditions_of : Bool → Option Data → List Condition
conditions_of escapes None = []
conditions_of escapes (Some d) = flat_map (conditions_under escapes) (pairs_in d)

-- what readers answer of a key, of the keys of an operator, of an operator, of all operators, of the element, and of a statement
abbrev pub IsConditionRead : KeyLocation → Data → Result Condition PolicyAnswer → Type 0
IsConditionRead at d =
    IsReadOf (key_checks at.location at.operator at.escapes (at.key.now, d)) (condition_of at.operator at.escapes (at.key.now, d))

abbrev pub AreKeysRead : Location → Operator → Bool → List (List ℕ × Data) → Result ⊤ PolicyAnswer → Type 0
AreKeysRead location o escapes keys = IsReadOf (flat_map (key_checks location o escapes) keys) tt

abbrev pub IsOperatorRead : Location → Bool → List ℕ × Data → Result ⊤ PolicyAnswer → Type 0
IsOperatorRead location escapes named = IsReadOf (operator_checks location escapes named) tt

abbrev pub AreOperatorsRead : Location → Bool → List (List ℕ × Data) → Result (List Condition) PolicyAnswer → Type 0
AreOperatorsRead location escapes operators =
    IsReadOf (flat_map (operator_checks location escapes) operators) (flat_map (conditions_under escapes) operators)

abbrev pub IsConditionElementRead : Location → Bool → Option Data → Result (List Condition) PolicyAnswer → Type 0
IsConditionElementRead location escapes element =
    IsReadOf (condition_checks location escapes element) (conditions_of escapes element)

abbrev pub AreConditionsRead : Location → Bool → Data → Result (List Condition) PolicyAnswer → Type 0
AreConditionsRead location escapes d = IsConditionElementRead location escapes (get (codes "Condition") d)

-- the conditions of keys, and of an operator, are added behind others
abbrev pub AddsKeys : Operator → Bool → List (List ℕ × Data) → List Condition → List Condition → Type 0
AddsKeys o escapes keys before behind = behind ≡ before ++ map (condition_of o escapes) keys

abbrev pub AddsOperator : Bool → List ℕ × Data → List Condition → List Condition → Type 0
AddsOperator escapes named before behind = behind ≡ before ++ conditions_under escapes named

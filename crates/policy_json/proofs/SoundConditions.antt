-- The conditions of an element that passes its checks are sound.
use Rattle.std.proofs.Common.{◌≡◌, ℕ, List, [], ◌∷◌, Bool, true, false, is_some, Option, Some, None, option_map, unwrap_or, All as Each, refl, ap, ◌∙◌}
use Rattle.std.specs.Str.{chars}
use Rattle.std.specs.Char.{to_ascii_lowercase}
use Rattle.std.specs.List.{flat_map}
use Rattle.std.proofs.lemmas.Str.Ascii.{lowercase-lowercase}
use Rattle.std.proofs.lemmas.List.Elements.{All-map, All-nil}
use Rattle.serde_json.specs.Data.{Data}
use Rattle.wildcard_lang.specs.Text.{folded_text}
use Rattle.policy_model.specs.declared.operator.Base.{Base}
use Rattle.policy_model.specs.declared.operator.Base.TheVariants.{Null}
use Rattle.policy_model.specs.declared.operator.Quantifier.TheVariants.{Plain}
use Rattle.policy_model.specs.declared.operator.Condition.{Condition}
use Rattle.policy_model.specs.declared.operator.Operator.{Operator}
use Rattle.policy_model.specs.declared.operator.Family.{Family}
use Rattle.policy_model.specs.declared.operator.Family.TheVariants as family
use Rattle.policy_model.specs.declared.operator.Operand.{Operand}
use Rattle.policy_model.specs.declared.operator.Operand.TheVariants as operand
use Rattle.policy_model.specs.Operators.{IsOperandOf, family_of}
use Rattle.policy_model.specs.Soundness.{ConditionIsSound, OperatorIsSound}
use Rattle.policy_json.specs.declared.location.Location.{Location}
use Rattle.json_shapes.specs.Checks.{first_fault}
use Rattle.json_shapes.specs.Json.{one_or_more, pairs_in}
use Rattle.json_shapes.proofs.Laws.{front_passes-none}
use Rattle.policy_json.specs.Conditions.{condition_checks, condition_of, conditions_of, conditions_under, key_checks, operator_checks, operator_named}
use Rattle.policy_json.specs.Operands.{block_in, bytes_in, is_of_form, moment_in, number_in, operand_of, operand_under, truth_in, value_checks}
use Rattle.policy_json.specs.OperatorNames.{operator_of, operator_with}
use Rattle.policy_json.proofs.OperatorNaming.{operator_of-is}
use Rattle.policy_json.proofs.Sound.{each_flat, each_sound, first_passes, second_passes}

-- ---- values

-- an operand that was found is of the family that takes each of its kind
found : {X : Type 0} (f : Family) (put : X → Operand) (o : Option X) → ((x : X) → IsOperandOf f (put x)) → is_some (option_map put o) ≡ true → IsOperandOf f (unwrap_or (option_map put o) (operand.Truth false))
found f put None each e = absurd cc
found f put (Some x) each e = each x

of_form : (f : Family) (b : Base) (escapes : Bool) (d : Data) → is_of_form f d ≡ true → IsOperandOf f (operand_under f b escapes d)
of_form family.Text b escapes d e = tt
of_form family.Arn b escapes d e = tt
of_form family.Numeric b escapes d e = found family.Numeric (λ n. operand.Number n) (number_in d) (λ n. tt) e
of_form family.Date b escapes d e = found family.Date (λ n. operand.Number n) (moment_in d) (λ n. tt) e
of_form family.Bool b escapes d e = found family.Bool (λ t. operand.Truth t) (truth_in d) (λ t. tt) e
of_form family.Null b escapes d e = found family.Null (λ t. operand.Truth t) (truth_in d) (λ t. tt) e
of_form family.Binary b escapes d e = found family.Binary (λ s. operand.Bytes s) (bytes_in d) (λ s. tt) e
of_form family.Address b escapes d e = found family.Address (λ s. operand.Block s) (block_in d) (λ s. tt) e

value_sound : (location : Location) (key : List ℕ) (b : Base) (escapes : Bool) (d : Data) → first_fault (value_checks location key b escapes d) ≡ None → IsOperandOf (family_of b) (operand_of b escapes d)
value_sound location key b escapes d e = of_form (family_of b) b escapes d (front_passes-none (value_checks location key b escapes d) e)

-- ---- keys and operators

-- a folded text is its own
folded_twice : (t : List ℕ) → folded_text (folded_text t) ≡ folded_text t
folded_twice [] = refl
folded_twice (c ∷ cs) = ap (λ (d : ℕ). d ∷ folded_text (folded_text cs)) (lowercase-lowercase c) ∙ ap (λ (ds : List ℕ). to_ascii_lowercase c ∷ ds) (folded_twice cs)

pub key_sound : (location : Location) (o : Operator) (escapes : Bool) → OperatorIsSound o → (key : List ℕ × Data) → first_fault (key_checks location o escapes key) ≡ None → ConditionIsSound (condition_of o escapes key)
key_sound location o escapes sound key e =
    let passed : first_fault (flat_map (value_checks location key.0 o.base escapes) (one_or_more key.1)) ≡ None = first_passes _ _ _ e in
    record {
      key = folded_twice (chars key.0);
      operator = sound;
      values = All-map (IsOperandOf (family_of o.base)) (operand_of o.base escapes) (one_or_more key.1)
          (each_sound (value_checks location key.0 o.base escapes) (λ d. IsOperandOf (family_of o.base) (operand_of o.base escapes d)) (value_sound location key.0 o.base escapes) (one_or_more key.1) passed);
    }

named_sound : (name : List ℕ) (o : Option Operator) → operator_of name ≡ o → is_some o ≡ true → OperatorIsSound (unwrap_or o (operator_with Null Plain false))
named_sound name None is e = absurd cc
named_sound name (Some o) is e = (operator_of-is name o is).1

-- ---- what holds of the condition of each key that passes its checks

module _ (P : Condition → Type 0) (location : Location) (escapes : Bool) (of_key : (o : Operator) → OperatorIsSound o → (key : List ℕ × Data) → first_fault (key_checks location o escapes key) ≡ None → P (condition_of o escapes key)) where
  operator_each : (named : List ℕ × Data) → first_fault (operator_checks location escapes named) ≡ None → Each P (conditions_under escapes named)
  operator_each named e =
      let o = operator_named named.0 in
      let sound : OperatorIsSound o = named_sound named.0 (operator_of named.0) refl (front_passes-none (operator_checks location escapes named) e) in
      let passed : first_fault (flat_map (key_checks location o escapes) (pairs_in named.1)) ≡ None = second_passes _ _ _ _ _ e in
      All-map P (condition_of o escapes) (pairs_in named.1) (each_sound (key_checks location o escapes) (λ key. P (condition_of o escapes key)) (of_key o sound) (pairs_in named.1) passed)

  -- holds of the conditions of an element that passes its checks
  pub conditions_each : (element : Option Data) → first_fault (condition_checks location escapes element) ≡ None → Each P (conditions_of escapes element)
  conditions_each None e = All-nil P
  conditions_each (Some d) e =
      let passed : first_fault (flat_map (operator_checks location escapes) (pairs_in d)) ≡ None = first_passes _ _ _ e in
      each_flat (conditions_under escapes) P (pairs_in d) (each_sound (operator_checks location escapes) (λ named. Each P (conditions_under escapes named)) operator_each (pairs_in d) passed)

-- the conditions of an element that passes its checks
pub conditions_sound : (location : Location) (escapes : Bool) (element : Option Data) → first_fault (condition_checks location escapes element) ≡ None → Each ConditionIsSound (conditions_of escapes element)
conditions_sound location escapes element e = conditions_each ConditionIsSound location escapes (λ o sound key passed. key_sound location o escapes sound key passed) element e

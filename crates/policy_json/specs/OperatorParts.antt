-- The parts of an operator's name as a reader cuts them off: a prefix, then a suffix, and then the base. That this reads exactly the
-- names that operators are written as is a law of this crate.
use Rattle.std.specs.Prelude.{ℕ, ◌-◌, List, length, take, drop, Bool, true, false, Option, find, option_and_then, Some, bytes_eq, codes, if◌then◌else◌}
use Rattle.policy_model.specs.declared.operator.Base.{Base}
use Rattle.policy_model.specs.declared.operator.Base.TheVariants as base
use Rattle.policy_model.specs.declared.operator.Quantifier.{Quantifier}
use Rattle.policy_model.specs.declared.operator.Quantifier.TheVariants.{Plain, ForAll, ForAny}
use Rattle.policy_model.specs.declared.operator.Operator.{Operator}
use Rattle.policy_json.specs.declared.operator_names.TheConstants.{COMPARING}
use Rattle.policy_json.specs.OperatorNames.{base_text, operator_with}

-- the text begins with the front, and ends with the end
abbrev pub starts_with : List ℕ → List ℕ → Bool
starts_with front text = bytes_eq (take (length front) text) front

abbrev pub ends_with : List ℕ → List ℕ → Bool
ends_with end text = bytes_eq (drop (length text - length end) text) end

-- a name as its prefix and the rest
abbrev pub without_prefix : List ℕ → Quantifier × List ℕ
without_prefix name =
    (if starts_with (codes "ForAllValues:") name then (ForAll, drop 13 name)
    else (if starts_with (codes "ForAnyValue:") name then (ForAny, drop 12 name) else (Plain, name)))

-- the rest as whether it has the suffix, and what stands before it
abbrev pub without_suffix : List ℕ → Bool × List ℕ
without_suffix name =
    (if ends_with (codes "IfExists") name then (true, take (length name - 8) name) else (false, name))

-- the base that is written so, `Null` aside
abbrev pub base_named : List ℕ → Option Base
base_named name = find (λ b. bytes_eq (base_text b) name) COMPARING

-- the operator of a name by its parts; `Null` is that name alone
unfoldable pub operator_by_parts : List ℕ → Option Operator
operator_by_parts name =
    (if bytes_eq name (codes "Null") then Some (operator_with base.Null Plain false)
    else option_and_then (λ b. Some (operator_with b (without_prefix name).0 (without_suffix (without_prefix name).1).0))
    (base_named (without_suffix (without_prefix name).1).1))

-- The names of condition operators (IAM JSON policy reference, condition operators): an optional prefix, a base name and an optional
-- suffix. That a name is taken in this spelling alone, with regard to case, and that `Null` has neither prefix nor suffix, is this
-- project's own choice.
use Rattle.std.specs.Prelude.{◌≡◌, ◌↔◌, ℕ, List, [], ◌∷◌, ◌++◌, Bool, true, false, Option, Some, find, flat_map, bytes_eq, codes}
use Rattle.policy_model.specs.declared.operator.Base.{Base}
use Rattle.policy_model.specs.declared.operator.Base.TheVariants as base
use Rattle.policy_model.specs.declared.operator.Quantifier.{Quantifier}
use Rattle.policy_model.specs.declared.operator.Quantifier.TheVariants.{Plain, ForAll, ForAny}
use Rattle.policy_model.specs.declared.operator.Operator.{Operator}
use Rattle.policy_model.specs.Soundness.{OperatorIsSound}
use Rattle.policy_json.specs.declared.operator_names.TheConstants.{COMPARING}

-- how a prefix, a base and a suffix are written
abbrev pub quantifier_text : Quantifier → List ℕ
quantifier_text Plain = []
quantifier_text ForAll = codes "ForAllValues:"
quantifier_text ForAny = codes "ForAnyValue:"

abbrev pub suffix_text : Bool → List ℕ
suffix_text true = codes "IfExists"
suffix_text false = []

abbrev pub base_text : Base → List ℕ
base_text base.StringEquals = codes "StringEquals"
base_text base.StringNotEquals = codes "StringNotEquals"
base_text base.StringEqualsIgnoreCase = codes "StringEqualsIgnoreCase"
base_text base.StringNotEqualsIgnoreCase = codes "StringNotEqualsIgnoreCase"
base_text base.StringLike = codes "StringLike"
base_text base.StringNotLike = codes "StringNotLike"
base_text base.NumericEquals = codes "NumericEquals"
base_text base.NumericNotEquals = codes "NumericNotEquals"
base_text base.NumericLessThan = codes "NumericLessThan"
base_text base.NumericLessThanEquals = codes "NumericLessThanEquals"
base_text base.NumericGreaterThan = codes "NumericGreaterThan"
base_text base.NumericGreaterThanEquals = codes "NumericGreaterThanEquals"
base_text base.DateEquals = codes "DateEquals"
base_text base.DateNotEquals = codes "DateNotEquals"
base_text base.DateLessThan = codes "DateLessThan"
base_text base.DateLessThanEquals = codes "DateLessThanEquals"
base_text base.DateGreaterThan = codes "DateGreaterThan"
base_text base.DateGreaterThanEquals = codes "DateGreaterThanEquals"
base_text base.Bool = codes "Bool"
base_text base.BinaryEquals = codes "BinaryEquals"
base_text base.IpAddress = codes "IpAddress"
base_text base.NotIpAddress = codes "NotIpAddress"
base_text base.ArnEquals = codes "ArnEquals"
base_text base.ArnLike = codes "ArnLike"
base_text base.ArnNotEquals = codes "ArnNotEquals"
base_text base.ArnNotLike = codes "ArnNotLike"
base_text base.Null = codes "Null"

-- how an operator is written
abbrev pub operator_text : Operator → List ℕ
operator_text o = quantifier_text o.quantifier ++ (base_text o.base ++ suffix_text o.if_exists)

-- an operator by its parts
abbrev pub operator_with : Base → Quantifier → Bool → Operator
operator_with b quantifier if_exists = record { base = b; quantifier = quantifier; if_exists = if_exists }

-- the operators of a base: without a prefix and with each, without the suffix and with it
abbrev pub operators_on : Base → List Operator
operators_on b =
    flat_map (λ q. operator_with b q false ∷ operator_with b q true ∷ []) (Plain ∷ ForAll ∷ ForAny ∷ [])

-- all operators: `Null`, and those of the 26 other bases
unfoldable pub operators : List Operator
operators = operator_with base.Null Plain false ∷ flat_map operators_on COMPARING

-- the operator that is written so, or none
unfoldable pub operator_of : List ℕ → Option Operator
operator_of name = find (λ o. bytes_eq name (operator_text o)) operators

-- ---- what the names say of one another

-- a name is read as an operator exactly where it is how that operator is written, and `Null` has neither prefix nor suffix; so no two
-- operators have one name
abbrev pub OperatorsAreNamed : Type 0
OperatorsAreNamed =
    (name : List ℕ) (o : Operator) → (operator_of name ≡ Some o) ↔ ((name ≡ operator_text o) × OperatorIsSound o)

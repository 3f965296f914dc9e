-- What a condition says of a request (IAM JSON policy reference, condition operators), in words of the key's values and of the
-- operator. No test and no tree appears.
use Rattle.std.specs.Prelude.{◌≡◌, ◌≢◌, ◌⊎◌, ℕ, List, [], ◌∷◌, map, Bool, IsTrue, MatchBool, All, Any, option_map, unwrap_or}
use Rattle.text_table.specs.Table.{item_at}
use Rattle.policy_model.specs.declared.value.Kind.{Kind}
use Rattle.policy_model.specs.declared.value.Kind.TheVariants.{Text}
use Rattle.policy_model.specs.declared.value.Value.{Value}
use Rattle.policy_model.specs.declared.cond.Cond.{Cond}
use Rattle.policy_model.specs.declared.operator.Quantifier.{Quantifier}
use Rattle.policy_model.specs.declared.operator.Quantifier.TheVariants.{Plain, ForAll, ForAny}
use Rattle.policy_model.specs.declared.operator.Operand.{Operand}
use Rattle.policy_model.specs.declared.operator.Operand.TheVariants as operand
use Rattle.policy_model.specs.declared.operator.Condition.{Condition}
use Rattle.policy_model.specs.declared.request.Request.{Request}
use Rattle.policy_model.specs.declared.schema.Schema.{Schema}
use Rattle.policy_model.specs.Conds.{MeetsSome}
use Rattle.policy_model.specs.Operators.{cond_of, is_negated, is_null}

-- the values that the request gives the key: none where it is absent
abbrev pub values_at : Request → List ℕ → List Value
values_at r key = unwrap_or (item_at key r.context) []

-- the kind that the schema gives the key. A key that it doesn't name counts as one of texts
abbrev pub kind_at : Schema → List ℕ → Kind
kind_at schema key = unwrap_or (option_map (λ rule. rule.kind) (item_at key schema.keys)) Text

-- what the condition's values ask, one by one
abbrev pub conds_of : Kind → Condition → List Cond
conds_of k c = map (cond_of k c.operator.base) c.values

-- the key's value matches: it meets some of what is asked, or where the operator is negated none of it
abbrev pub ValueMatches : Kind → Condition → Value → Type 0
ValueMatches k c v = MatchBool (is_negated c.operator.base) (¬ MeetsSome (conds_of k c) v) (MeetsSome (conds_of k c) v)

-- without a prefix the one value matches, and an absent key does where the operator is negated. Several values never do: a key
-- that may have several takes no operator without a prefix
abbrev pub OneMatches : Bool → (Value → Type 0) → List Value → Type 0
OneMatches negated matches [] = IsTrue negated
OneMatches negated matches (v ∷ []) = matches v
OneMatches negated matches (v ∷ w ∷ more) = ⊥

-- with `ForAllValues:` each value matches, so an absent key does, and with `ForAnyValue:` some value does
abbrev pub Quantified : Quantifier → Bool → (Value → Type 0) → List Value → Type 0
Quantified Plain negated matches values = OneMatches negated matches values
Quantified ForAll negated matches values = All matches values
Quantified ForAny negated matches values = Any matches values

-- the key's values match by the prefix of the operator
abbrev pub ValuesMatch : Kind → Condition → List Value → Type 0
ValuesMatch k c values = Quantified c.operator.quantifier (is_negated c.operator.base) (ValueMatches k c) values

-- the truth value of a `Null` is whether the key is absent
abbrev pub NullHolds : List Value → Operand → Type 0
NullHolds values (operand.Truth b) = MatchBool b (values ≡ []) (values ≢ [])
NullHolds values o = ⊥

-- what the operator says without `IfExists`
abbrev pub OperatorHolds : Kind → Condition → List Value → Type 0
OperatorHolds k c values = MatchBool (is_null c.operator.base) (Any (NullHolds values) c.values) (ValuesMatch k c values)

-- with `IfExists` the key is absent, or the operator holds without it
abbrev pub HoldsOfValues : Kind → Condition → List Value → Type 0
HoldsOfValues k c values = (IsTrue c.operator.if_exists × (values ≡ [])) ⊎ OperatorHolds k c values

-- the condition holds of the request, where the key is of the kind that the schema gives it
abbrev pub ConditionHolds : Schema → Request → Condition → Type 0
ConditionHolds schema r c = HoldsOfValues (kind_at schema c.key) c (values_at r c.key)

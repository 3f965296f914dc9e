-- Values and conditions of the kinds other than texts, as the theory of plain values has them, and what asks want there.
use Rattle.std.specs.Prelude.{◌≡◌, ℕ, List, [], ◌∷◌, Bool, Option, Some, None}
use Rattle.policy_model.specs.declared.cond.Cond.{Cond}
use Rattle.policy_model.specs.declared.cond.Cond.TheVariants as cond
use Rattle.policy_model.specs.declared.schema.KeyRule.{KeyRule}
use Rattle.policy_model.specs.declared.value.Kind.{Kind}
use Rattle.policy_model.specs.declared.value.Kind.TheVariants as kind
use Rattle.policy_model.specs.declared.value.Value.{Value}
use Rattle.policy_model.specs.declared.value.Value.TheVariants as value
use Rattle.policy_model.specs.Requests.{IsOfKind}
use Rattle.value_theory.specs.declared.clause.Literal.{Literal}
use Rattle.value_theory.specs.declared.kinds.PlainCond.{PlainCond}
use Rattle.value_theory.specs.declared.kinds.PlainCond.TheVariants.{Compares, Inside, Flag, Equals}
use Rattle.value_theory.specs.declared.kinds.PlainKind.{PlainKind}
use Rattle.value_theory.specs.declared.kinds.PlainKind.TheVariants as plain_kind
use Rattle.value_theory.specs.declared.kinds.PlainValue.{PlainValue}
use Rattle.value_theory.specs.declared.kinds.PlainValue.TheVariants as plain
use Rattle.value_theory.specs.declared.search.PlainWants.{PlainWants}
use Rattle.set_operators.specs.Asks.{Asks}
use Rattle.set_operators.specs.Clauses.{asks_clauses, asks_items}
use Rattle.set_operators.specs.Members.{AnswersEach, HasMember, IsMemberFor}

-- the kind of keys
abbrev pub as_kind : PlainKind → Kind
as_kind plain_kind.Truth = kind.Truth
as_kind plain_kind.Number = kind.Number
as_kind plain_kind.Address = kind.Address
as_kind plain_kind.Bytes = kind.Bytes

-- the value of a key
abbrev pub as_value : PlainValue → Value
as_value (plain.Truth b) = value.Truth b
as_value (plain.Number n) = value.Number n
as_value (plain.Address a) = value.Address a
as_value (plain.Bytes bs) = value.Bytes bs

-- the condition, where it isn't one on texts
abbrev pub plain_conds : Cond → List PlainCond
plain_conds (cond.Matches p) = []
plain_conds (cond.Compares compare bound) = Compares compare bound ∷ []
plain_conds (cond.Inside block) = Inside block ∷ []
plain_conds (cond.Flag at_true at_false) = Flag at_true at_false ∷ []
plain_conds (cond.Equals bytes) = Equals bytes ∷ []

-- a value of the kind that answers each of these asks, or none where there is none
abbrev pub IsPlainFound : PlainKind → Asks → Option Value → Type 0
IsPlainFound k asks None = (v : Value) → IsOfKind (as_kind k) v → ¬ AnswersEach v asks
IsPlainFound k asks (Some v) = IsOfKind (as_kind k) v × AnswersEach v asks

-- a member for these asks, or none where there is none
abbrev pub IsMemberFound : KeyRule → Asks → Option Value → Type 0
IsMemberFound rule asks None = ¬ HasMember rule asks
IsMemberFound rule asks (Some v) = IsMemberFor rule asks v

-- that the condition of this number is met or not
abbrev pub plain_literal_at : Bool → ℕ → Literal
plain_literal_at holds i = record { pattern = i; holds = holds }

-- the wants are what asks want of a value of the kind
pub record IsPlainFor (k : PlainKind) (asks : Asks) (wants : PlainWants) : Type 0 where
  pub kind : wants.kind ≡ k
  pub conds : wants.conds ≡ asks_items plain_conds asks
  pub clauses : wants.clauses ≡ asks_clauses plain_literal_at plain_conds asks 0

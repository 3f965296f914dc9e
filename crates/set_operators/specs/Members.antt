-- The members of a list of values: what a single value has to meet so that the list answers the asks.
use Rattle.std.specs.Prelude.{◌≡◌, ◌⊎◌, ⊤, ℕ, ◌+◌, ◌∷◌, ◌++◌, take, drop, slice_get, slice_index_or}
use Rattle.std.specs.Prelude.{true, not, Some, All, Any, MatchBool}
use Rattle.std.specs.List.{filter}
use Rattle.policy_model.specs.declared.schema.KeyRule.{KeyRule}
use Rattle.policy_model.specs.declared.value.Value.{Value}
use Rattle.policy_model.specs.Conds.{CondMeets, MeetsSome}
use Rattle.policy_model.specs.Requests.{IsValueOf}
use Rattle.set_operators.specs.declared.ask.KeyAsk.{KeyAsk}
use Rattle.set_operators.specs.declared.ask.KeyAsk.TheVariants.{Present, SomeMeets, SomeMeetsNone}
use Rattle.set_operators.specs.Asks.{Asks}

-- the value alone makes the ask hold of each list that it is a member of
abbrev pub MeetsAsk : Value → KeyAsk → Type 0
MeetsAsk v Present = ⊤
MeetsAsk v (SomeMeets c) = CondMeets v c
MeetsAsk v (SomeMeetsNone cs) = ¬ MeetsSome cs v

-- the value meets each of these asks or not, as is wanted
abbrev pub AnswersEach : Value → Asks → Type 0
AnswersEach v asks = All (λ a. MatchBool a.1 (MeetsAsk v a.0) (¬ MeetsAsk v a.0)) asks

-- a value that the rule permits and that meets each of these asks or not, as is wanted
pub record IsMemberFor (rule : KeyRule) (asks : Asks) (v : Value) : Type 0 where
  pub permitted : IsValueOf rule v
  pub answers : AnswersEach v asks

abbrev pub HasMember : KeyRule → Asks → Type 0
HasMember rule asks = (v : Value) × IsMemberFor rule asks v

-- the asks that are answered no: they are to hold of no member
abbrev pub denied_asks : Asks → Asks
denied_asks asks = filter (λ a. not a.1) asks

-- what the member for ask k has to meet: that ask, and what is answered no before and behind it
abbrev pub member_asks : Asks → ℕ → Asks
member_asks asks k = denied_asks (take k asks) ++ slice_index_or asks k (Present, true) ∷ denied_asks (drop (k + 1) asks)

-- some ask is answered yes
abbrev pub SomeIsWanted : Asks → Type 0
SomeIsWanted asks = Any (λ a. a.1 ≡ true) asks

-- the empty list won't do: the key is required, or some ask is answered yes
abbrev pub NeedsValue : KeyRule → Asks → Type 0
NeedsValue rule asks = (rule.required ≡ true) ⊎ SomeIsWanted asks

-- a member for each ask that is answered yes, and one at all where the key is required
pub record HasMembers (rule : KeyRule) (asks : Asks) : Type 0 where
  pub each : (k : ℕ) (ask : KeyAsk) → slice_get asks k ≡ Some (ask, true) → HasMember rule (member_asks asks k)
  pub there : rule.required ≡ true → HasMember rule (denied_asks asks)

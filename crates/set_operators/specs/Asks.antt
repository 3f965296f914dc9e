-- What is asked of the values of one key, and which lists of values answer it. An absent key has the empty list.
use Rattle.std.specs.Prelude.{◌≡◌, ◌≢◌, ⊤, List, [], Bool, true, All, Any, MatchBool}
use Rattle.policy_model.specs.declared.schema.KeyRule.{KeyRule}
use Rattle.policy_model.specs.declared.value.Kind.{Kind}
use Rattle.policy_model.specs.declared.value.Value.{Value}
use Rattle.policy_model.specs.Conds.{CondMeets, IsCondOf, MeetsSome}
use Rattle.policy_model.specs.Requests.{PermitsValues}
use Rattle.set_operators.specs.declared.ask.KeyAsk.{KeyAsk}
use Rattle.set_operators.specs.declared.ask.KeyAsk.TheVariants.{Present, SomeMeets, SomeMeetsNone}

-- asks, each with the answer that is wanted
abbrev pub Asks : Type 0
Asks = List (KeyAsk × Bool)

-- each condition of the ask is on values of the kind
abbrev pub AskIsOf : Kind → KeyAsk → Type 0
AskIsOf kind Present = ⊤
AskIsOf kind (SomeMeets c) = IsCondOf kind c
AskIsOf kind (SomeMeetsNone cs) = All (IsCondOf kind) cs

-- the ask holds of the values of a key: there is one; some value meets the condition; some value meets none of the conditions
abbrev pub AskHolds : List Value → KeyAsk → Type 0
AskHolds values Present = values ≢ []
AskHolds values (SomeMeets c) = Any (λ v. CondMeets v c) values
AskHolds values (SomeMeetsNone cs) = Any (λ v. ¬ MeetsSome cs v) values

-- the values answer each ask as is wanted
abbrev pub AnswerAll : List Value → Asks → Type 0
AnswerAll values asks = All (λ a. MatchBool a.1 (AskHolds values a.0) (¬ AskHolds values a.0)) asks

-- a valid request may have these values at a key of the rule: the rule permits them together, and a key that is required has one
pub record AreValuesOf (rule : KeyRule) (values : List Value) : Type 0 where
  pub permitted : PermitsValues rule values
  pub there : rule.required ≡ true → values ≢ []

-- some values of the rule answer the asks so
abbrev pub HaveSome : KeyRule → Asks → Type 0
HaveSome rule asks = (values : List Value) × AreValuesOf rule values × AnswerAll values asks

-- no values of the rule do
abbrev pub HaveNone : KeyRule → Asks → Type 0
HaveNone rule asks = (values : List Value) → AreValuesOf rule values → AnswerAll values asks → ⊥

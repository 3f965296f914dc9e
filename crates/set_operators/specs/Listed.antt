-- Values that the rule of a key lists.
use Rattle.std.specs.Prelude.{◌≢◌, List, Option, Some, None, All, Contains}
use Rattle.policy_model.specs.declared.schema.KeyRule.{KeyRule}
use Rattle.policy_model.specs.declared.value.Value.{Value}
use Rattle.set_operators.specs.Asks.{Asks}
use Rattle.set_operators.specs.Members.{AnswersEach, HasMember, IsMemberFor}

-- one of the listed values that answers each of these asks, or none where there is none
abbrev pub IsListedFound : List Value → Asks → Option Value → Type 0
IsListedFound listed asks None = All (λ v. ¬ AnswersEach v asks) listed
IsListedFound listed asks (Some v) = Contains listed v × AnswersEach v asks

-- a listed value that is a member for these asks; or none, and then, where values are listed, there is no member
abbrev pub IsListedMember : KeyRule → Asks → Option Value → Type 0
IsListedMember rule asks None = rule.among ≢ None → ¬ HasMember rule asks
IsListedMember rule asks (Some v) = IsMemberFor rule asks v

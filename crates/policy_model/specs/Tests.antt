-- What a test answers on a request.
use Rattle.std.specs.Prelude.{Any}
use Rattle.wildcard_lang.specs.Matching.{Matches}
use Rattle.policy_model.specs.Conds.{CondMeets, MeetsSome}
use Rattle.policy_model.specs.Conditions.{values_at}
use Rattle.policy_model.specs.Principals.{EntryHolds}
use Rattle.policy_model.specs.Requests.{HasValue}
use Rattle.policy_model.specs.declared.request.Request.{Request}
use Rattle.policy_model.specs.declared.test.Test.{Test}
use Rattle.policy_model.specs.declared.test.Test.TheVariants.{Principal, Action, Resource, Present, SomeMeets, SomeMeetsNone}

-- of a key it is asked whether it has a value, one that meets what is asked, or one that meets nothing of what is asked
abbrev pub TestHolds : Request → Test → Type 0
TestHolds r (Principal entry) = EntryHolds r entry
TestHolds r (Action pattern) = Matches pattern r.action
TestHolds r (Resource pattern) = Matches pattern r.resource
TestHolds r (Present key) = HasValue r.context key
TestHolds r (SomeMeets key c) = Any (λ v. CondMeets v c) (values_at r key)
TestHolds r (SomeMeetsNone key cs) = Any (λ v. ¬ MeetsSome cs v) (values_at r key)

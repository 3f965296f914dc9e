-- What follows from the definition of the decider.
use Rattle.std.specs.Prelude.{◌≡◌, false}
use Rattle.policy_model.specs.declared.request.Request.{Request}
use Rattle.policy_model.specs.declared.schema.Schema.{Schema}
use Rattle.policy_model.specs.declared.set.PolicySet.{PolicySet}
use Rattle.policy_eval.specs.declared.outcome.Decider.{Decider}
use Rattle.policy_model.specs.Sets.{Allows}
use Rattle.policy_model.specs.StatementNames.{named_set}
use Rattle.policy_eval.specs.declared.outcome.Decider.TheVariants as by
use Rattle.policy_eval.specs.Deciding.{IsAllowedBy, IsDecider, IsFirstDeciding, IsNotGranted, IsNotGuarded}

-- a request has one decider under a schema and a set
abbrev pub DecidersAreEqual : Type 0
DecidersAreEqual =
    (schema : Schema) (set : PolicySet) (r : Request) (one other : Decider) →
    IsDecider schema set r one → IsDecider schema set r other → one ≡ other

-- whether the set allows the request, by what decides on it: a Deny statement denies it, an Allow statement of the grants without any
-- lack allows it, and each lack of one denies it
abbrev pub DecidesWhatIsAllowed : Schema → PolicySet → Request → Decider → Type 0
DecidesWhatIsAllowed schema set r (by.Statement name) =
    (IsFirstDeciding schema false r (named_set set) name → ¬ Allows schema set r) × (IsAllowedBy schema set r name → Allows schema set r)
DecidesWhatIsAllowed schema set r by.NoGrant = IsNotGranted schema set r → ¬ Allows schema set r
DecidesWhatIsAllowed schema set r (by.NoGuard g) = IsNotGuarded schema set r g → ¬ Allows schema set r

-- what decides tells whether the set allows the request
abbrev pub DecidersTellWhatIsAllowed : Type 0
DecidersTellWhatIsAllowed = (schema : Schema) (set : PolicySet) (r : Request) (d : Decider) → DecidesWhatIsAllowed schema set r d

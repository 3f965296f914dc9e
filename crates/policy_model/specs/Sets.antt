-- What a set of policies allows (IAM JSON policy reference, evaluation logic): an explicit Deny decides, then an Allow of the
-- grants that every guard joins, and otherwise the request is denied.
use Rattle.std.specs.Prelude.{◌≡◌, ⊤, Bool, true, false, List, Any, All, Option, Some, None, MatchBool}
use Rattle.wildcard_lang.specs.Matching.{Matches}
use Rattle.policy_model.specs.Conditions.{ConditionHolds}
use Rattle.policy_model.specs.Principals.{EntryHolds}
use Rattle.policy_model.specs.declared.matcher.Matcher.{Matcher}
use Rattle.policy_model.specs.declared.request.Request.{Request}
use Rattle.policy_model.specs.declared.schema.Schema.{Schema}
use Rattle.policy_model.specs.declared.set.Statement.{Statement}
use Rattle.policy_model.specs.declared.set.Document.{Document}
use Rattle.policy_model.specs.declared.set.PolicySet.{PolicySet}

-- some item holds, or with `not` none does
abbrev pub MatcherHolds : {T : Type 0} → (T → Type 0) → Matcher T → Type 0
MatcherHolds holds m = MatchBool m.not (¬ Any holds m.items) (Any holds m.items)

-- an absent matcher holds
abbrev pub OptionalHolds : {T : Type 0} → (T → Type 0) → Option (Matcher T) → Type 0
OptionalHolds holds None = ⊤
OptionalHolds holds (Some m) = MatcherHolds holds m

-- the statement's principal, action, resource and every condition hold of the request
pub record Applies (schema : Schema) (s : Statement) (r : Request) : Type 0 where
  pub principal : OptionalHolds (EntryHolds r) s.principal
  pub action : MatcherHolds (λ p. Matches p r.action) s.action
  pub resource : OptionalHolds (λ p. Matches p r.resource) s.resource
  pub conditions : All (ConditionHolds schema r) s.conditions

-- the statement has this effect and applies
abbrev pub Decides : Schema → Bool → Request → Statement → Type 0
Decides schema allow r s = (s.allow ≡ allow) × Applies schema s r

-- some statement of the documents has this effect and applies
abbrev pub SomeDecides : Schema → Bool → Request → List Document → Type 0
SomeDecides schema allow r documents = Any (λ d. Any (Decides schema allow r) d.statements) documents

-- some Allow statement of the grants applies, each guard has an Allow statement that applies, and no Deny statement of the
-- grants or of a guard applies
pub record Allows (schema : Schema) (set : PolicySet) (r : Request) : Type 0 where
  pub granted : SomeDecides schema true r set.grants
  pub guarded : All (SomeDecides schema true r) set.guards
  pub not_denied : ¬ SomeDecides schema false r set.grants
  pub not_denied_by_guard : ¬ Any (SomeDecides schema false r) set.guards

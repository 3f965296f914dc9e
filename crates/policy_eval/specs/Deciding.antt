-- Which statement, or which lack of one, decides on a request.
use Rattle.std.specs.Prelude.{◌≡◌, ℕ, ◌+◌, List, ◌∷◌, ◌++◌, length, Bool, true, false, Option, Some, None, All, ◌⊎◌}
use Rattle.policy_model.specs.Sets.{Decides, SomeDecides}
use Rattle.policy_model.specs.StatementNames.{Named, named_grants, named_set}
use Rattle.policy_model.specs.declared.schema.Schema.{Schema}
use Rattle.policy_model.specs.declared.request.Request.{Request}
use Rattle.policy_model.specs.declared.set.Statement.{Statement}
use Rattle.policy_model.specs.declared.set.StatementName.{StatementName}
use Rattle.policy_model.specs.declared.set.Document.{Document}
use Rattle.policy_model.specs.declared.set.PolicySet.{PolicySet}
use Rattle.policy_eval.specs.declared.outcome.Decider.{Decider}
use Rattle.policy_eval.specs.declared.outcome.Decider.TheVariants as by

-- the statement has this effect and applies
abbrev pub NamedDecides : Schema → Bool → Request → Named → Type 0
NamedDecides schema allow r named = Decides schema allow r named.1

-- of these statements the first that has this effect and applies has the name
pub record IsFirstDeciding (schema : Schema) (allow : Bool) (r : Request) (statements : List Named) (name : StatementName) : Type 0 where
  pub before : List Named
  pub statement : Statement
  pub after : List Named
  pub is : statements ≡ before ++ (name, statement) ∷ after
  pub none_before : All (λ n. ¬ NamedDecides schema allow r n) before
  pub here : Decides schema allow r statement

-- none of these statements has this effect and applies
abbrev pub NoneDecides : Schema → Bool → Request → List Named → Type 0
NoneDecides schema allow r statements = All (λ n. ¬ NamedDecides schema allow r n) statements

-- the name of the first, or none where there is none
abbrev pub FirstIs : Schema → Bool → Request → List Named → Option StatementName → Type 0
FirstIs schema allow r statements None = NoneDecides schema allow r statements
FirstIs schema allow r statements (Some name) = IsFirstDeciding schema allow r statements name

-- guard g, counted from 1, is the first without an Allow statement that applies
pub record IsFirstSilent (schema : Schema) (r : Request) (guards : List (List Document)) (g : ℕ) : Type 0 where
  pub before : List (List Document)
  pub guard : List Document
  pub after : List (List Document)
  pub is : guards ≡ before ++ guard ∷ after
  pub number : g ≡ length before + 1
  pub none_before : All (SomeDecides schema true r) before
  pub silent : ¬ SomeDecides schema true r guard

-- the number of that guard, or none where each guard has an Allow statement that applies
abbrev pub FirstSilentIs : Schema → Request → List (List Document) → Option ℕ → Type 0
FirstSilentIs schema r guards None = All (SomeDecides schema true r) guards
FirstSilentIs schema r guards (Some g) = IsFirstSilent schema r guards g

-- no Deny statement applies, each guard has an Allow statement that applies, and the first one of the grants has this name
pub record IsAllowedBy (schema : Schema) (set : PolicySet) (r : Request) (name : StatementName) : Type 0 where
  pub not_denied : NoneDecides schema false r (named_set set)
  pub guarded : All (SomeDecides schema true r) set.guards
  pub first : IsFirstDeciding schema true r (named_grants set) name

-- no Deny statement applies, and no Allow statement of the grants
pub record IsNotGranted (schema : Schema) (set : PolicySet) (r : Request) : Type 0 where
  pub not_denied : NoneDecides schema false r (named_set set)
  pub not_granted : NoneDecides schema true r (named_grants set)

-- no Deny statement applies, an Allow statement of the grants does, and guard g is the first without one
pub record IsNotGuarded (schema : Schema) (set : PolicySet) (r : Request) (g : ℕ) : Type 0 where
  pub not_denied : NoneDecides schema false r (named_set set)
  pub name : StatementName
  pub granted : IsFirstDeciding schema true r (named_grants set) name
  pub silent : IsFirstSilent schema r set.guards g

-- what decides: the cases exclude one another
abbrev pub IsDecider : Schema → PolicySet → Request → Decider → Type 0
IsDecider schema set r (by.Statement name) = IsFirstDeciding schema false r (named_set set) name ⊎ IsAllowedBy schema set r name
IsDecider schema set r by.NoGrant = IsNotGranted schema set r
IsDecider schema set r (by.NoGuard g) = IsNotGuarded schema set r g

-- What follows from the definitions: sets without a statement, and change queries.
use Rattle.std.specs.Prelude.{◌≡◌, ◌≢◌, ◌↔◌, List, [], ◌∷◌, ◌++◌, length, map, false, All, Any, Contains}
use Rattle.policy_model.specs.declared.request.Request.{Request}
use Rattle.policy_model.specs.declared.schema.Schema.{Schema}
use Rattle.policy_model.specs.declared.set.PolicySet.{PolicySet}
use Rattle.policy_model.specs.declared.set.Statement.{Statement}
use Rattle.policy_model.specs.declared.set.StatementName.{StatementName}
use Rattle.policy_model.specs.Requests.{IsValid}
use Rattle.policy_model.specs.Sets.{Allows}
use Rattle.policy_model.specs.Soundness.{IsSound, SchemaFits, SchemaIsSound}
use Rattle.policy_model.specs.StatementNames.{Named, named_grants, named_set}
use Rattle.policy_compile.specs.declared.outcome.Query.{Query}
use Rattle.policy_compile.specs.Limits.{AskTheSameTests, MeetLimitsAlike}
use Rattle.policy_compile.specs.Queries.{IsQuery, asked_tree}
use Rattle.policy_compile.specs.Sets.{set_plan}
use Rattle.refute_check.specs.Laws.{IsMetBy, NoneMeets}
use Rattle.findings.specs.Answers.{QueryIsAskable}
use Rattle.set_questions.specs.Idle.{IsIdle, IsUsedBy}
use Rattle.set_questions.specs.Removal.{without_statement}
use Rattle.set_questions.specs.Uses.{change_plan}

-- ---- sets without a statement

-- the statements themselves, without their names
abbrev pub statements_named : List Named → List Statement
statements_named ns = map (λ n. n.1) ns

-- of the set's statements just the one goes; each document and each guard stays
pub record TakesOne (set : PolicySet) (name : StatementName) (before after : List Named) : Type 0 where
  pub statements : statements_named (named_set (without_statement set name)) ≡ statements_named before ++ statements_named after
  pub grants : length (without_statement set name).grants ≡ length set.grants
  pub guards : map (λ g. length g) (without_statement set name).guards ≡ map (λ g. length g) set.guards

abbrev pub WithoutTakesOne : Type 0
WithoutTakesOne =
    (set : PolicySet) (name : StatementName) (s : Statement) (before after : List Named) →
    named_set set ≡ before ++ (name, s) ∷ after → TakesOne set name before after

-- a schema that can answer for a set can answer for it without a statement, which is sound where the set is
pub record StaysSound (set : PolicySet) (name : StatementName) : Type 0 where
  pub sound : IsSound set → IsSound (without_statement set name)
  pub fits : (schema : Schema) → SchemaFits schema set → SchemaFits schema (without_statement set name)

abbrev pub WithoutStaysSound : Type 0
WithoutStaysSound = (set : PolicySet) (name : StatementName) → StaysSound set name

-- ---- change queries

-- the change query of a statement has the tests of the set's query, so the two are past a limit alike
pub record AsksAsTheSet (schema : Schema) (set : PolicySet) (named : Named) : Type 0 where
  pub tests : AskTheSameTests (change_plan schema set named) (set_plan schema set)
  pub limits : MeetLimitsAlike (change_plan schema set named) (set_plan schema set)

abbrev pub ChangesAskAsTheSet : Type 0
ChangesAskAsTheSet =
    (schema : Schema) (set : PolicySet) (named : Named) → Contains (named_set set) named → AsksAsTheSet schema set named

-- a request that meets the query shows the statement used, and that none meets it shows the statement idle
pub record DecidesUse (schema : Schema) (set : PolicySet) (name : StatementName) (query : Query) : Type 0 where
  pub askable : SchemaIsSound schema → QueryIsAskable schema query
  pub used : (r : Request) → IsMetBy schema query.tests (asked_tree query) [] r → IsUsedBy schema set name r
  pub idle : NoneMeets schema query.tests (asked_tree query) [] → IsIdle schema set name

-- so does the change query
abbrev pub ChangeQueriesTell : Type 0
ChangeQueriesTell =
    (schema : Schema) (set : PolicySet) (named : Named) (query : Query) → SchemaFits schema set → Contains (named_set set) named →
    IsQuery (change_plan schema set named) query → DecidesUse schema set named.0 query

-- ---- single cases

-- a guard has no Allow statement
abbrev pub HasSilentGuard : PolicySet → Type 0
HasSilentGuard set = Any (All (λ d. All (λ s. s.allow ≡ false) d.statements)) set.guards

-- the last Allow statement of a guard is idle just where the set allows nothing: the guard stays without it
abbrev pub LastAllowsOfGuards : Type 0
LastAllowsOfGuards =
    (schema : Schema) (set : PolicySet) (name : StatementName) → HasSilentGuard (without_statement set name) →
    (IsIdle schema set name ↔ ((r : Request) → IsValid schema r → ¬ Allows schema set r))

-- of two equal statements of the grants each is idle by itself: the other stays
abbrev pub TwinsAreIdle : Type 0
TwinsAreIdle =
    (schema : Schema) (set : PolicySet) (s : Statement) (name other : StatementName) → Contains (named_grants set) (name, s) →
    Contains (named_grants set) (other, s) → name ≢ other → IsIdle schema set name

-- What a search may find.
use Rattle.std.specs.Prelude.{⊤}
use Rattle.policy_model.specs.declared.request.Request.{Request}
use Rattle.policy_model.specs.declared.schema.Schema.{Schema}
use Rattle.policy_model.specs.Requests.{IsValid}
use Rattle.policy_compile.specs.declared.outcome.Query.{Query}
use Rattle.policy_compile.specs.Queries.{asked_tree}
use Rattle.refute_check.specs.Laws.{MakesYes}
use Rattle.clause_search.specs.declared.outcome.Outcome.{Outcome}
use Rattle.clause_search.specs.declared.outcome.Outcome.TheVariants.{Refuted, Met, Open}

-- the request is valid and makes the query yes
pub record IsMetRequest (schema : Schema) (query : Query) (r : Request) : Type 0 where
  pub valid : IsValid schema r
  pub meets : MakesYes query.tests (asked_tree query) r

-- no valid request makes the query yes; this one does; or nothing is known
abbrev pub IsSearchOutcome : Schema → Query → Outcome → Type 0
IsSearchOutcome schema query Refuted = (r : Request) → IsValid schema r → MakesYes query.tests (asked_tree query) r → ⊥
IsSearchOutcome schema query (Met r) = IsMetRequest schema query r
IsSearchOutcome schema query Open = ⊤

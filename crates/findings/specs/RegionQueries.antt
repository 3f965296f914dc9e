-- Queries that say which valid requests lie in a region: its own query, and those that say as much of the same tests.
use Rattle.std.specs.Prelude.{◌≡◌, ◌↔◌, ◌<◌, ◌^◌, ℕ, Bool, List, IsTrue, length, All}
use Rattle.formula_tree.specs.Values.{AreBelow, holds}
use Rattle.policy_model.specs.declared.request.Request.{Request}
use Rattle.policy_model.specs.declared.schema.Schema.{Schema}
use Rattle.policy_model.specs.Requests.{IsValid}
use Rattle.policy_model.specs.Soundness.{TestSuits}
use Rattle.policy_compile.specs.declared.outcome.Query.{Query}
use Rattle.policy_compile.specs.Meaning.{AnswersAs}
use Rattle.policy_compile.specs.Queries.{asked_tree}
use Rattle.query_reduction.specs.Values.{HasSameValue}
use Rattle.strata.specs.declared.stratum.Strata.{Strata}
use Rattle.findings.specs.declared.region.Region.{Region}
use Rattle.findings.specs.Queries.{AreMadeFor}
use Rattle.findings.specs.Regions.{LiesInRegion}

-- under the answers that a valid request gives its tests, the query's tree holds exactly where the request lies in the region. The
-- tests suit the schema and are numbered by 32 bits, and the tree has their numbers alone
pub record IsRegionQuery (schema : Schema) (region : Region) (q : Query) : Type 0 where
  pub suit : All (TestSuits schema) q.tests
  pub few : length q.tests < 2 ^ 32
  pub below : AreBelow (length q.tests) (asked_tree q)
  pub says : (r : Request) (answers : ℕ → Bool) → IsValid schema r → AnswersAs answers r q.tests →
      (IsTrue (holds answers (asked_tree q)) ↔ LiesInRegion schema region r)

-- the query has the tests of the other and, on valid requests, its value
pub record SaysAsMuch (schema : Schema) (base q : Query) : Type 0 where
  pub tests : q.tests ≡ base.tests
  pub below : AreBelow (length q.tests) (asked_tree q)
  pub same : HasSameValue schema base.tests (asked_tree base) (asked_tree q)

-- the query is one of the region for which the strata are made, by whichever query they are
pub record AsksRegion (schema : Schema) (region : Region) (q : Query) (strata : Strata) : Type 0 where
  pub base : Query
  pub made : AreMadeFor schema region base strata
  pub is : IsRegionQuery schema region q

-- of some region
abbrev pub AsksSomeRegion : Schema → Query → Strata → Type 0
AsksSomeRegion schema q strata = (region : Region) × AsksRegion schema region q strata

-- under some schema
abbrev pub AsksUnderSome : Query → Strata → Type 0
AsksUnderSome q strata = (schema : Schema) × AsksSomeRegion schema q strata

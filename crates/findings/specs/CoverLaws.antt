-- What follows from the definitions of covers and of summaries that stand.
use Rattle.std.specs.Prelude.{◌≡◌, ℕ, List, [], All, Any}
use Rattle.policy_model.specs.declared.request.Request.{Request}
use Rattle.policy_model.specs.declared.schema.Schema.{Schema}
use Rattle.policy_model.specs.Requests.{IsValid}
use Rattle.policy_compile.specs.declared.outcome.Query.{Query}
use Rattle.refute_check.specs.declared.refutation.Refutation.{Refutation}
use Rattle.refute_check.specs.Queries.{ClosesQuery}
use Rattle.strata.specs.declared.stratum.Strata.{Strata}
use Rattle.findings.specs.declared.cover.TheConstants.{MOST_COVER_TESTS}
use Rattle.findings.specs.declared.region.Region.{Region}
use Rattle.findings.specs.declared.standing.SummaryVerdict.{SummaryVerdict}
use Rattle.findings.specs.CoverQueries.{IsCoverQuery}
use Rattle.findings.specs.Findings.{IsFinding, LiesInFinding}
use Rattle.findings.specs.Laws.{HasSummary}
use Rattle.findings.specs.Queries.{AreMadeFor}
use Rattle.findings.specs.Regions.{LiesInRegion, region_plan}
use Rattle.findings.specs.StandingSummaries.{IsSummaryVerdict, SummaryStands}

-- a region with its strata under a schema, and a refutation that closes the query of a cover of these findings
pub record ClosesCover (schema : Schema) (region : Region) (strata : Strata) (fs : List (List ℕ)) : Type 0 where
  pub base : Query
  pub made : AreMadeFor schema region base strata
  pub findings : All (IsFinding strata.dimensions) fs
  pub query : Query
  pub is : IsCoverQuery (region_plan schema region) strata.dimensions fs query
  pub refutation : Refutation
  pub closes : ClosesQuery schema query refutation []

-- then each valid request of the region lies in one of them, whoever wrote the refutation
abbrev pub ClosedCoversLeaveNobodyOut : Type 0
ClosedCoversLeaveNobodyOut =
    (schema : Schema) (region : Region) (strata : Strata) (fs : List (List ℕ)) → ClosesCover schema region strata fs →
    (r : Request) → IsValid schema r → LiesInRegion schema region r → Any (LiesInFinding r strata.dimensions) fs

-- the summary of a region stands for it
abbrev pub SummariesStand : Type 0
SummariesStand =
    (schema : Schema) (region : Region) (strata : Strata) (summary : List (List ℕ × Request)) →
    HasSummary schema region strata summary → SummaryStands schema region strata.dimensions summary

-- a list stands or fails at one pair: never both, and never at two
abbrev pub SummaryVerdictsAreEqual : Type 0
SummaryVerdictsAreEqual =
    (schema : Schema) (region : Region) (strata : Strata) (pairs : List (List ℕ × Request)) (one other : SummaryVerdict) →
    IsSummaryVerdict schema region strata.dimensions pairs one → IsSummaryVerdict schema region strata.dimensions pairs other → one ≡ other

-- the query of a cover has at most 1,000 tests
abbrev pub CoverLimits : Type 0
CoverLimits = MOST_COVER_TESTS ≡ 1000

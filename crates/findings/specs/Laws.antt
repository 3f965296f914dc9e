-- What follows from the definitions of findings and summaries.
use Rattle.std.specs.Prelude.{◌≢◌, ◌≤◌, ℕ, List, Any, Contains}
use Rattle.policy_model.specs.declared.request.Request.{Request}
use Rattle.policy_model.specs.declared.schema.Schema.{Schema}
use Rattle.policy_model.specs.Requests.{IsValid}
use Rattle.policy_compile.specs.declared.outcome.Query.{Query}
use Rattle.strata.specs.declared.stratum.Strata.{Strata}
use Rattle.strata.specs.declared.stratum.Stratum.{Stratum}
use Rattle.findings.specs.declared.region.Region.{Region}
use Rattle.findings.specs.Findings.{IsStrictlyFiner, LiesInFinding}
use Rattle.findings.specs.Queries.{AreMadeFor}
use Rattle.findings.specs.Regions.{LiesInRegion}
use Rattle.findings.specs.Summaries.{IsSummary, VisitsExactly, VisitsAtLeast, findings_of}

-- a region with its strata under a schema, and its summary
pub record HasSummary (schema : Schema) (region : Region) (strata : Strata) (summary : List (List ℕ × Request)) : Type 0 where
  pub base : Query
  pub made : AreMadeFor schema region base strata
  pub is : IsSummary schema region strata.dimensions summary

-- each valid request of the region lies in some finding of the summary
abbrev pub SummariesCover : Type 0
SummariesCover =
    (schema : Schema) (region : Region) (strata : Strata) (summary : List (List ℕ × Request)) →
    HasSummary schema region strata summary → (r : Request) → IsValid schema r → LiesInRegion schema region r →
    Any (LiesInFinding r strata.dimensions) (findings_of summary)

-- no finding of the summary is strictly finer than another
abbrev pub SummariesAreFlat : Type 0
SummariesAreFlat =
    (schema : Schema) (region : Region) (strata : Strata) (summary : List (List ℕ × Request)) →
    HasSummary schema region strata summary → (f g : List ℕ) → Contains (findings_of summary) f →
    Contains (findings_of summary) g → ¬ IsStrictlyFiner schema strata.dimensions f g

-- some valid request lies in the first finding and not in the second
pub record LiesApart (schema : Schema) (ds : List Stratum) (f g : List ℕ) : Type 0 where
  pub request : Request
  pub valid : IsValid schema request
  pub lies : LiesInFinding request ds f
  pub misses : ¬ LiesInFinding request ds g

-- of two different findings of it, some valid request lies in the first and not in the second
abbrev pub SummariesAreNeeded : Type 0
SummariesAreNeeded =
    (schema : Schema) (region : Region) (strata : Strata) (summary : List (List ℕ × Request)) →
    HasSummary schema region strata summary → (f g : List ℕ) → Contains (findings_of summary) f →
    Contains (findings_of summary) g → f ≢ g → LiesApart schema strata.dimensions f g

-- where exactly so many findings must be looked at, no more must be
abbrev pub VisitsAreBounded : Type 0
VisitsAreBounded =
    (schema : Schema) (region : Region) (strata : Strata) (few many : ℕ) →
    VisitsAtLeast schema region strata.dimensions few → VisitsExactly schema region strata.dimensions many → few ≤ many

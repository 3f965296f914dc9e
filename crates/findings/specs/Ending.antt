-- How a walk ends.
use Rattle.std.specs.Prelude.{ℕ, None, Err}
use Rattle.policy_model.specs.declared.schema.Schema.{Schema}
use Rattle.policy_compile.specs.declared.outcome.Query.{Query}
use Rattle.strata.specs.declared.stratum.Strata.{Strata}
use Rattle.findings.specs.declared.outcome.SummaryFault.{SummaryFault}
use Rattle.findings.specs.declared.region.Region.{Region}
use Rattle.findings.specs.declared.walk.Walk.{Walk}
use Rattle.findings.specs.Answers.{IsSummarised}
use Rattle.findings.specs.Queries.{AreMadeFor}
use Rattle.findings.specs.Walked.{IsNextFinding, SameBesides, StandsAt}

-- the walk is at its end: all that was left to come was passed
pub record HasEnded (schema : Schema) (base : Query) (strata : Strata) (w : Walk) : Type 0 where
  pub before : Walk
  pub stands : StandsAt schema base strata before
  pub next : IsNextFinding strata.dimensions before w None
  pub same : SameBesides before w

-- why there is no summary of whichever region the strata are
abbrev pub SummaryFails : Schema → Query → Strata → ℕ → ℕ → ℕ → SummaryFault → Type 0
SummaryFails schema base strata splits states findings e =
    (region : Region) → AreMadeFor schema region base strata →
    IsSummarised schema region strata.dimensions splits states findings (Err e)

-- What a summary comes to within limits.
use Rattle.std.specs.Prelude.{◌≤◌, ◌<◌, ◌+◌, ◌^◌, ◌≢◌, ℕ, List, length, All, AllPairs, Contains}
use Rattle.policy_model.specs.declared.schema.Schema.{Schema}
use Rattle.policy_model.specs.declared.test.Slot.{Slot}
use Rattle.policy_model.specs.Soundness.{SchemaIsSound}
use Rattle.policy_compile.specs.declared.outcome.Query.{Query}
use Rattle.policy_compile.specs.Queries.{IsQuery}
use Rattle.slot_theory.specs.Slots.{SlotIsIn}
use Rattle.strata.specs.declared.stratum.Strata.{Strata}
use Rattle.strata.specs.declared.stratum.Stratum.{Stratum}
use Rattle.strata.specs.Causes.{AreFew, IsFirstTooMany, NamesWide}
use Rattle.strata.specs.Strata.{AreStrata}
use Rattle.findings.specs.declared.region.Region.{Region}
use Rattle.findings.specs.Answers.{FailsAtFinding, SplitsFail, StatesFail}
use Rattle.findings.specs.Regions.{RegionFits, region_plan}
use Rattle.findings.specs.Summaries.{IsSummary, VisitsAtLeast}
use Rattle.summary_search.specs.declared.outcome.Limits.{Limits}
use Rattle.summary_search.specs.declared.outcome.Outcome.{Outcome}
use Rattle.summary_search.specs.declared.outcome.Outcome.TheVariants.{Found, TooManyPredicates, Wide, OutOfFindings}
use Rattle.summary_search.specs.declared.outcome.Outcome.TheVariants.{OutOfSplits, OutOfStates}

-- the schema is sound, and the slots differ, are numbered by 32 bits, and requests under the schema have them
pub record AreAskable (schema : Schema) (slots : List Slot) : Type 0 where
  pub sound : SchemaIsSound schema
  pub count : length slots < 2 ^ 32
  pub differ : AllPairs (λ s t. s ≢ t) slots
  pub known : All (SlotIsIn schema) slots

-- the query is that of the region, whose sets the schema fits
pub record IsQueryOfRegion (schema : Schema) (region : Region) (query : Query) : Type 0 where
  pub fits : RegionFits schema region
  pub is : IsQuery (region_plan schema region) query

-- it is that of some region
abbrev pub IsOfSomeRegion : Schema → Query → Type 0
IsOfSomeRegion schema query = (region : Region) × IsQueryOfRegion schema region query

-- each budget is at least 1
pub record AreInRange (limits : Limits) : Type 0 where
  pub splits : 1 ≤ limits.splits
  pub states : 1 ≤ limits.states
  pub findings : 1 ≤ limits.findings

-- the strata of the slots, where in none more predicates are named than so many
pub record AreStrataWithin (most : ℕ) (schema : Schema) (query : Query) (slots : List Slot) (strata : Strata) : Type 0 where
  pub few : AreFew most query.tests slots
  pub are : AreStrata schema query slots strata

-- of these this holds
pub record OfStrata (most : ℕ) (schema : Schema) (query : Query) (slots : List Slot) (P : List Stratum → Type 0) : Type 0 where
  pub strata : Strata
  pub are : AreStrataWithin most schema query slots strata
  pub holds : P strata.dimensions

-- the summary of the region by the slots, of no more findings than may be looked at; or the first slot in which too many predicates
-- are named; or, where there is none, that two predicates of a slot, the number of findings or the query of a finding that must be
-- looked at needs more than a limit
abbrev pub IsSummaryOutcome : Schema → Region → Query → List Slot → Limits → Outcome → Type 0
IsSummaryOutcome schema region query slots limits (Found strata summary) =
    AreStrataWithin limits.predicates schema query slots strata × IsSummary schema region strata.dimensions summary ×
    (length summary ≤ limits.findings)
IsSummaryOutcome schema region query slots limits (TooManyPredicates d) = IsFirstTooMany limits.predicates query.tests slots d
IsSummaryOutcome schema region query slots limits (Wide s texts) =
    Contains slots s × AreFew limits.predicates query.tests slots × NamesWide schema query.tests limits.states s texts
IsSummaryOutcome schema region query slots limits OutOfFindings =
    OfStrata limits.predicates schema query slots (λ ds. VisitsAtLeast schema region ds (limits.findings + 1))
IsSummaryOutcome schema region query slots limits (OutOfSplits strata f) =
    AreStrataWithin limits.predicates schema query slots strata ×
    FailsAtFinding schema region strata.dimensions f (λ q. SplitsFail schema q limits.splits)
IsSummaryOutcome schema region query slots limits (OutOfStates strata f w) =
    AreStrataWithin limits.predicates schema query slots strata ×
    FailsAtFinding schema region strata.dimensions f (λ q. StatesFail schema q limits.states w)

-- the same of whichever region the query is of
abbrev pub IsOutcomeFor : Schema → Query → List Slot → Limits → Outcome → Type 0
IsOutcomeFor schema query slots limits outcome =
    (region : Region) → IsQueryOfRegion schema region query → IsSummaryOutcome schema region query slots limits outcome

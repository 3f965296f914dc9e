-- What a summary of a region finds, or what is printed instead.
use Rattle.std.specs.Prelude.{◌≡◌, ◌⊎◌, ◌≤◌, ◌<◌, ⊤, ℕ, List, [], length, get_or, All}
use Rattle.std.specs.Str.{chars}
use Rattle.findings.specs.Findings.{IsFinding}
use Rattle.findings.specs.Queries.{AreMadeFor}
use Rattle.findings.specs.Summaries.{IsSummary}
use Rattle.findings.specs.Texts.{finding_text}
use Rattle.policy_compile.specs.declared.outcome.Query.{Query}
use Rattle.policy_compile.specs.Queries.{IsQuery}
use Rattle.policy_model.specs.declared.request.Request.{Request}
use Rattle.policy_model.specs.declared.schema.Schema.{Schema}
use Rattle.policy_model.specs.declared.test.Slot.{Slot}
use Rattle.policy_model.specs.Requests.{IsWellKept}
use Rattle.request_json.specs.Laws.{RequestIsReadAgain}
use Rattle.strata.specs.declared.stratum.Stratum.{Stratum}
use Rattle.summary_search.specs.Outcomes.{AreStrataWithin, IsSummaryOutcome}
use Rattle.summary_search.specs.declared.outcome.Limits.{Limits}
use Rattle.summary_search.specs.declared.outcome.Outcome.{Outcome}
use Rattle.summary_search.specs.declared.outcome.Outcome.TheVariants as outcome
use Rattle.run_inputs.specs.declared.printed.Printed.{Printed}
use Rattle.run_inputs.specs.declared.status.Status.TheVariants.{Refused, Undecided}
use Rattle.run_inputs.specs.Printing.{PrintsText}
use Rattle.run_inputs.specs.declared.shortage.Shortage.TheVariants.{States}
use Rattle.run_inputs.specs.Parts.{shortage_text}
use Rattle.run_inputs.specs.PastLimits.{IsPlanPastLimit}
use Rattle.run_inputs.specs.Refusals.{IsRefusedBy}
use Rattle.summary_answers.specs.declared.answer.Found.{Found}
use Rattle.summary_answers.specs.declared.subject.Subject.{Subject}
use Rattle.summary_answers.specs.Dimensions.{IsUnknownPrinted, NameSlots, dimension_slots}
use Rattle.summary_answers.specs.FindingTexts.{findings_line, splits_line, states_line, too_many_line}
use Rattle.summary_answers.specs.Subjects.{subject_plan}

-- ---- what is found

-- each finding has the number of a predicate of each dimension
abbrev pub HaveFindings : List Stratum → List (List ℕ × Request) → Type 0
HaveFindings ds summary = All (λ p. IsFinding ds p.0) summary

-- the line of each request is read again under the schema as that request
abbrev pub AreReadAgain : Schema → List (List ℕ × Request) → Type 0
AreReadAgain schema summary = All (λ p. RequestIsReadAgain schema p.1) summary

-- each name is that of a dimension, and the strata are made for the query of the region by these dimensions. None of them names too
-- many predicates. The summary is that of the region by them, with no more findings than may be looked at, and its requests are read
-- again as they are printed
pub record IsFoundOf (names : List (List ℕ)) (limits : Limits) (subject : Subject) (found : Found) : Type 0 where
  pub known : NameSlots subject.schema names
  pub made : AreMadeFor subject.schema subject.region found.query found.strata
  pub strata : AreStrataWithin limits.predicates subject.schema found.query (dimension_slots names) found.strata
  pub summary : IsSummary subject.schema subject.region found.strata.dimensions found.summary
  pub few : length found.summary ≤ limits.findings
  pub again : AreReadAgain subject.schema found.summary

-- ---- what is printed instead

-- the query of the region, and what the summary of the region by the slots comes to
pub record IsSubjectOutcome (slots : List Slot) (limits : Limits) (subject : Subject) (query : Query) (came : Outcome) : Type 0 where
  pub is : IsQuery (subject_plan subject) query
  pub comes : IsSummaryOutcome subject.schema subject.region query slots limits came

-- the line on an outcome other than a summary: a dimension with too many named predicates is refused, and a limit that is too
-- small leaves the summary undecided
abbrev pub PrintsUnfound : List (List ℕ) → Limits → Outcome → Printed → Type 0
PrintsUnfound names limits (outcome.Found strata summary) p = ⊥
PrintsUnfound names limits (outcome.TooManyPredicates d) p = PrintsText (too_many_line (chars (get_or names d []))) Refused p
PrintsUnfound names limits (outcome.Wide s texts) p = PrintsText (shortage_text (States limits.states s)) Undecided p
PrintsUnfound names limits outcome.OutOfFindings p = PrintsText (findings_line limits.findings) Undecided p
PrintsUnfound names limits (outcome.OutOfSplits strata f) p =
    PrintsText (splits_line limits.splits (finding_text strata.dimensions f)) Undecided p
PrintsUnfound names limits (outcome.OutOfStates strata f w) p =
    PrintsText (states_line limits.states w.slot (finding_text strata.dimensions f)) Undecided p

-- the summary of the region comes to another outcome, whose line is printed
pub record IsEndedEarly (names : List (List ℕ)) (limits : Limits) (subject : Subject) (p : Printed) : Type 0 where
  pub query : Query
  pub came : Outcome
  pub is : IsSubjectOutcome (dimension_slots names) limits subject query came
  pub prints : PrintsUnfound names limits came p

-- of a region whose schema has each dimension: the limit that its query is past, or the line on the outcome
abbrev pub IsNotSummarised : List (List ℕ) → Limits → Subject → Printed → Type 0
IsNotSummarised names limits subject p =
    IsRefusedBy (IsPlanPastLimit (subject_plan subject)) p ⊎ IsEndedEarly names limits subject p

-- the first name of no dimension, or why the region isn't summarised
abbrev pub IsNotFound : List (List ℕ) → Limits → Subject → Printed → Type 0
IsNotFound names limits subject p =
    IsUnknownPrinted subject.schema names p ⊎ (NameSlots subject.schema names × IsNotSummarised names limits subject p)

-- ---- parts

-- an outcome has texts: its findings have a number of each dimension, and a dimension is one of those that are named
abbrev pub HasTexts : List (List ℕ) → Outcome → Type 0
HasTexts names (outcome.Found strata summary) = HaveFindings strata.dimensions summary
HasTexts names (outcome.TooManyPredicates d) = d < length names
HasTexts names (outcome.Wide s texts) = ⊤
HasTexts names outcome.OutOfFindings = ⊤
HasTexts names (outcome.OutOfSplits strata f) = IsFinding strata.dimensions f
HasTexts names (outcome.OutOfStates strata f w) = IsFinding strata.dimensions f

-- each request has each of its keys once, with values, and of texts
abbrev pub AreWellKept : List (List ℕ × Request) → Type 0
AreWellKept summary = All (λ p. IsWellKept p.1) summary

-- the outcome is that this was found by the query
pub record IsFoundIn (query : Query) (came : Outcome) (found : Found) : Type 0 where
  pub asked : found.query ≡ query
  pub is : came ≡ outcome.Found found.strata found.summary
  pub kept : AreWellKept found.summary

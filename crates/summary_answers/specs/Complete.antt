-- When a region is summarised.
use Rattle.std.specs.Prelude.{◌≡◌, ◌+◌, ℕ, List, [], Contains}
use Rattle.command_words.specs.Asked.{Summarising}
use Rattle.findings.specs.Answers.{FailsAtFinding, SplitsFail, StatesFail}
use Rattle.findings.specs.Summaries.{VisitsAtLeast}
use Rattle.findings.specs.declared.decide.Wide.{Wide}
use Rattle.policy_compile.specs.declared.outcome.Query.{Query}
use Rattle.policy_compile.specs.Numbering.{HasTooMany}
use Rattle.policy_compile.specs.Plans.{tests_in}
use Rattle.policy_compile.specs.Queries.{HasTooManyPieces, IsQuery}
use Rattle.policy_model.specs.declared.test.Slot.{Slot}
use Rattle.strata.specs.Causes.{AreFew, NamesWide}
use Rattle.strata.specs.declared.stratum.Strata.{Strata}
use Rattle.strata.specs.declared.stratum.Stratum.{Stratum}
use Rattle.summary_search.specs.Outcomes.{AreStrataWithin}
use Rattle.summary_search.specs.declared.outcome.Limits.{Limits}
use Rattle.run_inputs.specs.declared.printed.Printed.{Printed}
use Rattle.run_inputs.specs.declared.status.Status.TheVariants.{Holds}
use Rattle.run_inputs.specs.OneSets.{SomeOneSet, SetContents}
use Rattle.summary_answers.specs.declared.subject.Subject.{Subject}
use Rattle.summary_answers.specs.Dimensions.{NameSlots, dimension_slots}
use Rattle.summary_answers.specs.Found.{IsNotFound}
use Rattle.summary_answers.specs.Printed.{IsSummaryPrinted, limits_in}
use Rattle.summary_answers.specs.Subjects.{subject_of_set, subject_plan}

-- of no finding that must be looked at the query needs more splits or more product states, and no more findings must be
pub record FitsFindings (limits : Limits) (subject : Subject) (ds : List Stratum) : Type 0 where
  pub findings : ¬ VisitsAtLeast subject.schema subject.region ds (limits.findings + 1)
  pub splits : (f : List ℕ) →
      ¬ FailsAtFinding subject.schema subject.region ds f (λ q. SplitsFail subject.schema q limits.splits)
  pub states : (f : List ℕ) (w : Wide) →
      ¬ FailsAtFinding subject.schema subject.region ds f (λ q. StatesFail subject.schema q limits.states w)

-- by no dimension too many predicates are named, no two of one have patterns with more product states, and the findings of the
-- strata need no more than the limits
pub record FitsLimits (names : List (List ℕ)) (limits : Limits) (subject : Subject) (q : Query) : Type 0 where
  pub few : AreFew limits.predicates q.tests (dimension_slots names)
  pub narrow : (s : Slot) (texts : List (List ℕ)) → Contains (dimension_slots names) s →
      ¬ NamesWide subject.schema q.tests limits.states s texts
  pub strata : (made : Strata) → AreStrataWithin limits.predicates subject.schema q (dimension_slots names) made →
      FitsFindings limits subject made.dimensions

-- the query of the region is within its limits
pub record IsSummarisable (names : List (List ℕ)) (limits : Limits) (subject : Subject) : Type 0 where
  pub known : NameSlots subject.schema names
  pub tests : ¬ HasTooMany [] (tests_in (subject_plan subject))
  pub pieces : ¬ HasTooManyPieces (subject_plan subject)
  pub fits : (q : Query) → IsQuery (subject_plan subject) q → FitsLimits names limits subject q

-- of such a region the summary is found
abbrev pub SummarisableSubjectsAreFound : Type 0
SummarisableSubjectsAreFound =
    (names : List (List ℕ)) (limits : Limits) (subject : Subject) (p : Printed) →
    IsSummarisable names limits subject → ¬ IsNotFound names limits subject p

-- the files of a summary stand for a set with a schema that has each dimension, and no limit is below the need
abbrev pub IsSummaryAccepted : Summarising → SetContents → Type 0
IsSummaryAccepted s c = SomeOneSet c.set c.schema (λ one. IsSummarisable s.dimensions (limits_in s) (subject_of_set one))

-- such files are summarised
abbrev pub SummariesDecide : Type 0
SummariesDecide = (s : Summarising) (c : SetContents) (p : Printed) →
    IsSummaryAccepted s c → IsSummaryPrinted s c p → p.status ≡ Holds

-- What may be printed of findings.
use Rattle.std.specs.Prelude.{◌≡◌, ◌⊎◌, ℕ, List, [], ◌∷◌}
use Rattle.command_words.specs.Asked.{Summarising}
use Rattle.policy_model.specs.declared.request.Request.{Request}
use Rattle.strata.specs.declared.names.TheConstants.{MOST_PREDICATES}
use Rattle.summary_search.specs.declared.outcome.Limits.{Limits}
use Rattle.run_inputs.specs.declared.printed.Printed.{Printed}
use Rattle.run_inputs.specs.declared.status.Status.{Status}
use Rattle.run_inputs.specs.declared.status.Status.TheVariants.{Fails, Holds}
use Rattle.run_inputs.specs.Printing.{PrintsText}
use Rattle.run_inputs.specs.OneSets.{IsOneSetRefusal, SomeOneSet, SetContents}
use Rattle.run_inputs.specs.Refusals.{IsRefusedBy}
use Rattle.summary_answers.specs.declared.answer.Found.{Found}
use Rattle.summary_answers.specs.declared.limits.TheConstants.{MOST_CHANGE_PREDICATES}
use Rattle.summary_answers.specs.declared.subject.Subject.{Subject}
use Rattle.summary_answers.specs.FindingTexts.{found_text}
use Rattle.summary_answers.specs.Found.{IsFoundOf, IsNotFound}
use Rattle.summary_answers.specs.Subjects.{subject_of_set}

-- ---- the status of findings

-- the status of a list of findings
abbrev pub StatusRule : Type 0
StatusRule = List (List ℕ × Request) → Status

-- a summary answers what was asked, whatever it has
abbrev pub always_holds : StatusRule
always_holds summary = Holds

-- where there should be no finding, one of them is a failure
abbrev pub status_by : StatusRule
status_by [] = Holds
status_by (x ∷ xs) = Fails

-- ---- what is printed

-- the text of what is found of the region is printed, with the status of its findings
pub record IsFoundPrinted (status_of : StatusRule) (names : List (List ℕ)) (limits : Limits) (subject : Subject) (p : Printed) : Type 0 where
  pub found : Found
  pub is : IsFoundOf names limits subject found
  pub prints : PrintsText (found_text found) (status_of found.summary) p

-- why the region isn't summarised, or its summary
abbrev pub IsSubjectPrinted : StatusRule → List (List ℕ) → Limits → Subject → Printed → Type 0
IsSubjectPrinted status_of names limits subject p =
    IsNotFound names limits subject p ⊎ IsFoundPrinted status_of names limits subject p

-- ---- of files

-- the limits of a summary with so many predicates of a dimension
abbrev pub limits_with : ℕ → Summarising → Limits
limits_with most s = record { splits = s.splits; predicates = most; states = s.states; findings = s.findings }

-- where one set is asked, and where two are
abbrev pub limits_in : Summarising → Limits
limits_in s = limits_with MOST_PREDICATES s

abbrev pub change_limits_in : Summarising → Limits
change_limits_in s = limits_with MOST_CHANGE_PREDICATES s

-- where two sets are asked, at most 1,001 predicates of a dimension are named: one for each test of a query, and `any`
abbrev pub PredicateLimits : Type 0
PredicateLimits = MOST_CHANGE_PREDICATES ≡ 1001

-- of files: why they stand for no set, or what is printed of the set that they stand for
abbrev pub IsSummaryPrinted : Summarising → SetContents → Printed → Type 0
IsSummaryPrinted s c p =
    IsRefusedBy (IsOneSetRefusal c.set c.schema) p
    ⊎ SomeOneSet c.set c.schema (λ one. IsSubjectPrinted always_holds s.dimensions (limits_in s) (subject_of_set one) p)

-- ---- parts

-- the status is that of some findings
abbrev pub HasStatusOf : StatusRule → Printed → Type 0
HasStatusOf status_of p = (summary : List (List ℕ × Request)) × (p.status ≡ status_of summary)

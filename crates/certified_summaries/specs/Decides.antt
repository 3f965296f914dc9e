-- When summaries are certified, and files of them judged.
use Rattle.std.specs.Prelude.{◌≡◌, ◌≤◌, ◌⊎◌, ℕ, List, [], length, string_bytes}
use Rattle.command_words.specs.Asked.{Summarising, SummaryCheck}
use Rattle.command_words.specs.declared.limits.TheConstants.{MOST_FINDINGS}
use Rattle.findings.specs.Answers.{StatesFail}
use Rattle.findings.specs.Summaries.{findings_of}
use Rattle.findings.specs.declared.decide.Wide.{Wide}
use Rattle.policy_compile.specs.declared.outcome.Query.{Query}
use Rattle.policy_compile.specs.Numbering.{HasTooMany}
use Rattle.policy_compile.specs.Plans.{tests_in}
use Rattle.policy_compile.specs.Queries.{HasTooManyPieces, IsQuery}
use Rattle.policy_model.specs.declared.request.Request.{Request}
use Rattle.proof_text.specs.declared.limits.TheConstants.{MOST_PROOF_BYTES}
use Rattle.read_predicates.specs.Laws.{IsRegionOfFiles}
use Rattle.strata.specs.Causes.{AreFew}
use Rattle.strata.specs.declared.names.TheConstants.{MOST_PREDICATES}
use Rattle.strata.specs.declared.stratum.Strata.{Strata}
use Rattle.summary_search.specs.declared.outcome.Limits.{Limits}
use Rattle.tree_search.specs.Decisions.{NeedMore}
use Rattle.run_inputs.specs.declared.printed.Printed.{Printed}
use Rattle.run_inputs.specs.CertificateLines.{accepted_line}
use Rattle.run_inputs.specs.Printing.{PrintsText}
use Rattle.run_inputs.specs.declared.status.Status.TheVariants.{BadProof, Fails, Holds}
use Rattle.run_inputs.specs.OneSets.{SomeOneSet, SetContents}
use Rattle.summary_answers.specs.declared.answer.Found.{Found}
use Rattle.summary_answers.specs.declared.subject.Subject.{Subject}
use Rattle.summary_answers.specs.Complete.{IsSummarisable}
use Rattle.summary_answers.specs.Dimensions.{NameSlots, dimension_slots}
use Rattle.summary_answers.specs.Found.{IsFoundOf}
use Rattle.summary_answers.specs.Printed.{StatusRule, limits_in}
use Rattle.summary_answers.specs.Subjects.{subject_of_set, subject_plan}
use Rattle.certified_summaries.specs.Certified.{IsAcceptedByChecks, IsCertifiedSummaryPrinted, IsSubjectCertified, IsSummaryCertified}
use Rattle.certified_summaries.specs.CoverProofs.{CoverIsTooLarge, OfCover}
use Rattle.certified_summaries.specs.Heads.{IsHead}
use Rattle.certified_summaries.specs.Judged.{IsSubjectChecked, IsSummaryCheckPrinted}
use Rattle.certified_summaries.specs.Made.{AreNarrow, IsMadeOf}

-- ---- summaries with certificates

-- the query of the cover of what was found has at most 1,000 tests, and needs no more splits and no more states than there may be
pub record FitsCover (limits : Limits) (subject : Subject) (found : Found) : Type 0 where
  pub tests : ¬ CoverIsTooLarge subject.schema subject.region found.strata.dimensions (findings_of found.summary)
  pub splits : ¬ OfCover subject.schema subject.region found.strata.dimensions (findings_of found.summary)
      (λ q. NeedMore subject.schema q [] limits.splits)
  pub states : (w : Wide) → ¬ OfCover subject.schema subject.region found.strata.dimensions (findings_of found.summary)
      (λ q. StatesFail subject.schema q limits.states w)

-- no limit is below the need of the region's summary, nor of the cover of what is found
pub record IsCertifiable (names : List (List ℕ)) (limits : Limits) (subject : Subject) : Type 0 where
  pub summarisable : IsSummarisable names limits subject
  pub covers : (found : Found) → IsFoundOf names limits subject found → FitsCover limits subject found

-- the files stand for such a set
abbrev pub IsCertifiedSummaryAccepted : Summarising → SetContents → Type 0
IsCertifiedSummaryAccepted s c =
    SomeOneSet c.set c.schema (λ one. IsCertifiable s.dimensions (limits_in s) (subject_of_set one))

-- such files are summarised, with a certificate
abbrev pub CertifiedSummariesDecide : Type 0
CertifiedSummariesDecide = (s : Summarising) (c : SetContents) (p : Printed) →
    IsCertifiedSummaryAccepted s c → IsCertifiedSummaryPrinted s c p → p.status ≡ Holds

-- ---- checks of them

-- of no dimension more predicates are named than so many
abbrev pub NameFew : List (List ℕ) → ℕ → Subject → Type 0
NameFew names most subject = (q : Query) → IsQuery (subject_plan subject) q → AreFew most q.tests (dimension_slots names)

-- the strata of the region can be made, and of no list that the file spells the query of the cover has more than 1,000 tests
pub record IsJudgeable (names : List (List ℕ)) (most states : ℕ) (bytes : List ℕ) (subject : Subject) : Type 0 where
  pub known : NameSlots subject.schema names
  pub tests : ¬ HasTooMany [] (tests_in (subject_plan subject))
  pub pieces : ¬ HasTooManyPieces (subject_plan subject)
  pub few : NameFew names most subject
  pub narrow : AreNarrow names states subject
  pub covers : (q : Query) (strata : Strata) (pairs : List (List ℕ × Request)) → IsMadeOf names most subject q strata →
      IsHead subject.schema strata.dimensions bytes pairs →
      ¬ CoverIsTooLarge subject.schema subject.region strata.dimensions (findings_of pairs)

-- the files stand for such a set
abbrev pub IsSummaryCheckAccepted : SummaryCheck → List ℕ → SetContents → Type 0
IsSummaryCheckAccepted asked bytes c =
    SomeOneSet c.set c.schema (λ one. IsJudgeable asked.dimensions MOST_PREDICATES asked.states bytes (subject_of_set one))

-- a file for such files is accepted, or it is bad
abbrev pub SummaryChecksDecide : Type 0
SummaryChecksDecide = (asked : SummaryCheck) (bytes : List ℕ) (c : SetContents) (p : Printed) →
    IsSummaryCheckAccepted asked bytes c → IsSummaryCheckPrinted asked bytes c p →
    (p.status ≡ Holds) ⊎ (p.status ≡ BadProof)

-- ---- what is printed is accepted

-- the status is that of an answer with findings or without any
abbrev pub HoldsOrFails : Printed → Type 0
HoldsOrFails p = (p.status ≡ Holds) ⊎ (p.status ≡ Fails)

-- what is printed of a region whose sets files stand for, with a certificate, is accepted by a check by the same dimensions, as long as it
-- has at most as many bytes as a certificate may have, and the check's number of states is enough for the strata
abbrev pub CertifiedSubjectsAreAccepted : Type 0
CertifiedSubjectsAreAccepted =
    (status_of : StatusRule) (names : List (List ℕ)) (limits : Limits) (states : ℕ) (subject : Subject)
    (p checked : Printed) →
    IsRegionOfFiles subject.region → limits.findings ≤ MOST_FINDINGS → IsSubjectCertified status_of names limits subject p →
    HoldsOrFails p → length (string_bytes p.text) ≤ MOST_PROOF_BYTES → AreNarrow names states subject →
    IsSubjectChecked names limits.predicates states (string_bytes p.text) subject checked → PrintsText accepted_line Holds checked

-- what is printed to a summary with a certificate is accepted by a check
abbrev pub PrintedSummariesAreAccepted : Type 0
PrintedSummariesAreAccepted = (s : Summarising) (c : SetContents) (p : Printed) →
    s.findings ≤ MOST_FINDINGS → IsSummaryCertified s c p → IsAcceptedByChecks s c p

-- What may be printed to a summary for which a certificate is asked for.
use Rattle.std.specs.Prelude.{◌≡◌, ◌⊎◌, ◌++◌, ◌≤◌, ℕ, List, [], length, String, string_bytes}
use Rattle.std.specs.declared.alloc.Global.{Global}
use Rattle.command_words.specs.Asked.{Summarising, SummaryCheck}
use Rattle.refute_check.specs.Proofs.{Proof}
use Rattle.proof_text.specs.Laws.{HoldsSmallNumbers}
use Rattle.proof_text.specs.Spelling.{certificate_text}
use Rattle.proof_text.specs.declared.limits.TheConstants.{MOST_NUMBER, MOST_PROOF_BYTES}
use Rattle.findings.specs.Answers.{StatesFail}
use Rattle.findings.specs.Summaries.{findings_of}
use Rattle.findings.specs.declared.decide.Wide.{Wide}
use Rattle.summary_search.specs.declared.outcome.Limits.{Limits}
use Rattle.tree_search.specs.Decisions.{NeedMore}
use Rattle.run_inputs.specs.declared.printed.Printed.{Printed}
use Rattle.run_inputs.specs.declared.status.Status.{Status}
use Rattle.run_inputs.specs.declared.status.Status.TheVariants.{Holds, Refused, Undecided}
use Rattle.run_inputs.specs.Printing.{PrintsText}
use Rattle.run_inputs.specs.CertificateLines.{accepted_line}
use Rattle.run_inputs.specs.OneSets.{IsOneSetRefusal, SomeOneSet, SetContents}
use Rattle.run_inputs.specs.Refusals.{IsRefusedBy}
use Rattle.summary_answers.specs.declared.answer.Found.{Found}
use Rattle.summary_answers.specs.declared.subject.Subject.{Subject}
use Rattle.summary_answers.specs.FindingTexts.{found_text}
use Rattle.summary_answers.specs.Found.{IsFoundOf, IsNotFound}
use Rattle.summary_answers.specs.Printed.{StatusRule, always_holds, limits_in}
use Rattle.summary_answers.specs.Subjects.{subject_of_set}
use Rattle.certified_summaries.specs.CoverProofs.{CertifiesCover, CoverIsTooLarge, OfCover}
use Rattle.certified_summaries.specs.CoverTexts.{cover_splits_line, cover_states_line, cover_tests_line}
use Rattle.certified_summaries.specs.Judged.{IsSummaryCheckPrinted}
use Rattle.certified_summaries.specs.Made.{AreNarrow}

-- what is printed of what was found: that the query of its cover has more than 1,000 tests; that the query needs more splits, or at a slot
-- more states, than there may be; or, with this status, the text of the summary, and behind it the certificate that no valid request of
-- the region lies outside its findings
pub data IsCoverSaid (status : Status) (limits : Limits) (subject : Subject) (found : Found) (p : Printed) : Type 0 where
  large_query : CoverIsTooLarge subject.schema subject.region found.strata.dimensions (findings_of found.summary) →
      PrintsText cover_tests_line Refused p → IsCoverSaid status limits subject found p
  short_of_splits :
      OfCover subject.schema subject.region found.strata.dimensions (findings_of found.summary)
      (λ q. NeedMore subject.schema q [] limits.splits) →
      PrintsText (cover_splits_line limits.splits) Undecided p → IsCoverSaid status limits subject found p
  short_of_states : {w : Wide} →
      OfCover subject.schema subject.region found.strata.dimensions (findings_of found.summary)
      (λ q. StatesFail subject.schema q limits.states w) →
      PrintsText (cover_states_line limits.states w.slot) Undecided p → IsCoverSaid status limits subject found p
  with_certificate : {text : List ℕ} →
      OfCover subject.schema subject.region found.strata.dimensions (findings_of found.summary)
      (λ q. CertifiesCover subject.schema q text) →
      PrintsText (found_text found ++ text) status p → IsCoverSaid status limits subject found p

-- the text and status are printed of something found of the region
pub record IsCoverPrinted (status_of : StatusRule) (names : List (List ℕ)) (limits : Limits) (subject : Subject)
    (p : Printed) : Type 0 where
  pub found : Found
  pub is : IsFoundOf names limits subject found
  pub printed : IsCoverSaid (status_of found.summary) limits subject found p

-- why the region isn't summarised, or what is printed of its summary
abbrev pub IsSubjectCertified : StatusRule → List (List ℕ) → Limits → Subject → Printed → Type 0
IsSubjectCertified status_of names limits subject p =
    IsNotFound names limits subject p ⊎ IsCoverPrinted status_of names limits subject p

-- of files: why they stand for no set, or what is printed of the set that they stand for
abbrev pub IsSummaryCertified : Summarising → SetContents → Printed → Type 0
IsSummaryCertified s c p =
    IsRefusedBy (IsOneSetRefusal c.set c.schema) p
    ⊎ SomeOneSet c.set c.schema (λ one. IsSubjectCertified always_holds s.dimensions (limits_in s) (subject_of_set one) p)

-- where it is a summary with a certificate, each check of the same files, by the same dimensions, and of all that was printed accepts
-- it, as long as it has at most as many bytes as a certificate may have, and the check's number of states is enough for the strata
abbrev pub IsAcceptedByChecks : Summarising → SetContents → Printed → Type 0
IsAcceptedByChecks s c p = (asked : SummaryCheck) (checked : Printed) →
    p.status ≡ Holds → length (string_bytes p.text) ≤ MOST_PROOF_BYTES → asked.dimensions ≡ s.dimensions →
    SomeOneSet c.set c.schema (λ one. AreNarrow asked.dimensions asked.states (subject_of_set one)) →
    IsSummaryCheckPrinted asked (string_bytes p.text) c checked → PrintsText accepted_line Holds checked

-- both
pub record IsCertifiedSummaryPrinted (s : Summarising) (c : SetContents) (p : Printed) : Type 0 where
  pub printed : IsSummaryCertified s c p
  pub accepted : IsAcceptedByChecks s c p

-- ---- parts

-- the text of a summary, and behind it the certificate of a refutation, whose numbers are such as the program can hold
pub record IsCertifiedText (found : Found) (version : ℕ) (proof : Proof) (text : String Global) : Type 0 where
  pub is : string_bytes text ≡ found_text found ++ certificate_text version proof
  pub small : HoldsSmallNumbers proof
  pub version_small : version ≤ MOST_NUMBER

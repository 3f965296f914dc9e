-- What may be printed to a check of a file with a summary and a certificate of it.
use Rattle.std.specs.Prelude.{◌≡◌, ◌⊎◌, ◌+◌, ◌*◌, ◌≤◌, ℕ, List, Some, None, length, slice_get}
use Rattle.command_words.specs.Asked.{SummaryCheck}
use Rattle.policy_model.specs.declared.request.Request.{Request}
use Rattle.policy_model.specs.declared.schema.Schema.{Schema}
use Rattle.policy_compile.specs.declared.outcome.Query.{Query}
use Rattle.refute_check.specs.Proofs.{proof_of}
use Rattle.strata.specs.declared.stratum.Stratum.{Stratum}
use Rattle.findings.specs.StandingSummaries.{IsFirstFailing, SummaryStands}
use Rattle.findings.specs.Summaries.{findings_of}
use Rattle.proof_text.specs.declared.fault.ProofFault.{ProofFault}
use Rattle.command_words.specs.declared.limits.TheConstants.{MOST_FINDINGS}
use Rattle.proof_text.specs.Laws.{limits_of}
use Rattle.proof_text.specs.LineForms.{lines_of}
use Rattle.proof_text.specs.Reads.{HasFewNodes, IsReadBehind}
use Rattle.proof_text.specs.declared.read.ReadProof.{ReadProof}
use Rattle.run_inputs.specs.declared.printed.Printed.{Printed}
use Rattle.run_inputs.specs.declared.status.Status.TheVariants.{Holds, Refused, BadProof}
use Rattle.run_inputs.specs.Printing.{PrintsText}
use Rattle.strata.specs.declared.names.TheConstants.{MOST_PREDICATES}
use Rattle.summary_answers.specs.declared.subject.Subject.{Subject}
use Rattle.summary_answers.specs.Subjects.{subject_of_set}
use Rattle.run_inputs.specs.OneSets.{IsOneSetRefusal, SomeOneSet, SetContents}
use Rattle.run_inputs.specs.Refusals.{IsRefusedBy}
use Rattle.refute_check.specs.Queries.{ClosesAll, FailsAll}
use Rattle.run_inputs.specs.CertificateLines.{accepted_line, not_closing_line, proof_fault_text}
use Rattle.certified_summaries.specs.CoverProofs.{ClosesBehind, CoverIsTooLarge, FailsBehindAt, LeaveNobodyOut, OfCover, fault_of_cover}
use Rattle.certified_summaries.specs.CoverTexts.{cover_tests_line, head_fault_text, not_summary_line}
use Rattle.certified_summaries.specs.Heads.{IsHead, IsHeadFault, head_lines}
use Rattle.certified_summaries.specs.Made.{IsNotMade, OfMade}
use Rattle.certified_summaries.specs.declared.fault.HeadFault.{HeadFault}

-- the list stands for the region, and each valid request of the region lies in one of its findings
pub record IsCertifiedBy (subject : Subject) (ds : List Stratum) (pairs : List (List ℕ × Request)) : Type 0 where
  pub stands : SummaryStands subject.schema subject.region ds pairs
  pub covers : LeaveNobodyOut subject.schema subject.region ds (findings_of pairs)

-- what is printed of a list of pairs with a certificate behind its lines: that the query of the cover of the findings has more than 1,000
-- tests; the first fault of the certificate; the line of the first finding that keeps the list from standing for the region; the line of the
-- first node that fails; or that the list is accepted. Each comes only where none before it does
pub data IsListJudged (subject : Subject) (ds : List Stratum) (bytes : List ℕ) (pairs : List (List ℕ × Request)) (p : Printed) : Type 0 where
  large_cover : CoverIsTooLarge subject.schema subject.region ds (findings_of pairs) → PrintsText cover_tests_line Refused p →
      IsListJudged subject ds bytes pairs p
  bad_certificate : {fault : ProofFault} →
      OfCover subject.schema subject.region ds (findings_of pairs) (λ q. fault_of_cover subject.schema q (head_lines pairs) bytes ≡ Some fault) →
      PrintsText (proof_fault_text fault) BadProof p → IsListJudged subject ds bytes pairs p
  failing_pair : {place : ℕ} →
      OfCover subject.schema subject.region ds (findings_of pairs) (λ q. fault_of_cover subject.schema q (head_lines pairs) bytes ≡ None) →
      IsFirstFailing subject.schema subject.region ds pairs place → PrintsText (not_summary_line (2 * place + 2)) BadProof p →
      IsListJudged subject ds bytes pairs p
  failing_node : {line : ℕ} → SummaryStands subject.schema subject.region ds pairs →
      OfCover subject.schema subject.region ds (findings_of pairs) (λ q. FailsBehindAt subject.schema q (head_lines pairs) bytes line) →
      PrintsText (not_closing_line line) BadProof p → IsListJudged subject ds bytes pairs p
  all_holds : OfCover subject.schema subject.region ds (findings_of pairs) (λ q. ClosesBehind subject.schema q (head_lines pairs) bytes) →
      IsCertifiedBy subject ds pairs → PrintsText accepted_line Holds p → IsListJudged subject ds bytes pairs p

-- the first line of the head that fails is printed
pub record IsBadHeadPrinted (subject : Subject) (ds : List Stratum) (bytes : List ℕ) (p : Printed) : Type 0 where
  pub fault : HeadFault
  pub is : IsHeadFault subject.schema ds bytes fault
  pub prints : PrintsText (head_fault_text fault) BadProof p

-- of the pairs of the head this holds
pub record OfHead (subject : Subject) (ds : List Stratum) (bytes : List ℕ) (P : List (List ℕ × Request) → Type 0) : Type 0 where
  pub pairs : List (List ℕ × Request)
  pub is : IsHead subject.schema ds bytes pairs
  pub holds : P pairs

-- what is printed of a file for a region with strata
abbrev pub IsJudged : Subject → List Stratum → List ℕ → Printed → Type 0
IsJudged subject ds bytes p = IsBadHeadPrinted subject ds bytes p ⊎ OfHead subject ds bytes (λ pairs. IsListJudged subject ds bytes pairs p)

-- why the strata of the region aren't made, or what is printed of the file
abbrev pub IsSubjectChecked : List (List ℕ) → ℕ → ℕ → List ℕ → Subject → Printed → Type 0
IsSubjectChecked names most states bytes subject p =
    IsNotMade names most states subject p ⊎ OfMade names most subject (λ ds. IsJudged subject ds bytes p)

-- of files: why they stand for no set, or what is printed of the set that they stand for
abbrev pub IsSummaryCheckPrinted : SummaryCheck → List ℕ → SetContents → Printed → Type 0
IsSummaryCheckPrinted asked bytes c p =
    IsRefusedBy (IsOneSetRefusal c.set c.schema) p
    ⊎ SomeOneSet c.set c.schema (λ one. IsSubjectChecked asked.dimensions MOST_PREDICATES asked.states bytes (subject_of_set one) p)

-- ---- parts

-- the refutation that was read closes the query, and that is printed, or the line of its first node that fails
abbrev pub IsClosingPrinted : Schema → Query → ReadProof → Printed → Type 0
IsClosingPrinted schema q read p =
    (ClosesAll schema q (proof_of read.refutation.value) × PrintsText accepted_line Holds p)
    ⊎ ((node : ℕ) × (line : ℕ) × FailsAll schema q (proof_of read.refutation.value) node × (slice_get read.lines node ≡ Some line)
    × PrintsText (not_closing_line line) BadProof p)

-- the first fault of the certificate behind the lines of pairs is printed
pub record IsBadCertificatePrinted (schema : Schema) (q : Query) (pairs : List (List ℕ × Request)) (bytes : List ℕ) (p : Printed)
    : Type 0 where
  pub fault : ProofFault
  pub is : fault_of_cover schema q (head_lines pairs) bytes ≡ Some fault
  pub prints : PrintsText (proof_fault_text fault) BadProof p

-- the certificate behind the lines of pairs was read
pub record IsCertificateRead (schema : Schema) (q : Query) (pairs : List (List ℕ × Request)) (bytes : List ℕ) (read : ReadProof)
    : Type 0 where
  pub is : IsReadBehind (limits_of q.tests schema.version) (head_lines pairs) bytes read
  pub nodes : HasFewNodes bytes read

-- the file has the lines of the pairs
pub record HasHeadLines (bytes : List ℕ) (pairs : List (List ℕ × Request)) : Type 0 where
  pub few : length pairs ≤ MOST_FINDINGS
  pub lines : head_lines pairs ≤ length (lines_of bytes)

-- what is printed where a certificate was read, whichever file it stands in
abbrev pub IsReadJudged : Subject → List Stratum → List (List ℕ × Request) → Query → ReadProof → Printed → Type 0
IsReadJudged subject ds pairs q read p =
    (bytes : List ℕ) → IsReadBehind (limits_of q.tests subject.schema.version) (head_lines pairs) bytes read → IsListJudged subject ds bytes pairs p

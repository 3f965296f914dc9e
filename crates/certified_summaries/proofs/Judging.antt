-- What is printed of a list with a certificate.
use Rattle.std.proofs.Common.{◌≡◌, ◌<◌, ◌+◌, ◌*◌, ℕ, List, [], ◌∷◌, length, All, Some, None, slice_get, ap, subst, arith, inl, inr}
use Rattle.std.proofs.lemmas.List.{length-append}
use Rattle.std.proofs.lemmas.List.Elements.{All-nil, All-cons}
use Rattle.std.proofs.lemmas.Option.{slice_get_within}
use Rattle.policy_compile.specs.declared.outcome.Query.{Query}
use Rattle.policy_model.specs.declared.request.Request.{Request}
use Rattle.policy_model.specs.declared.schema.Schema.{Schema}
use Rattle.refute_check.specs.Proofs.{proof_of}
use Rattle.strata.specs.declared.stratum.Strata.{Strata}
use Rattle.strata.specs.declared.stratum.Stratum.{Stratum}
use Rattle.findings.specs.CoverLaws.{ClosedCoversLeaveNobodyOut}
use Rattle.findings.specs.CoverQueries.{IsCoverOf}
use Rattle.findings.specs.Findings.{IsFinding}
use Rattle.findings.specs.Queries.{AreMadeFor}
use Rattle.findings.specs.StandingSummaries.{IsSummaryVerdict, JudgesSummary}
use Rattle.findings.specs.Summaries.{findings_of}
use Rattle.findings.specs.declared.standing.SummaryVerdict.{SummaryVerdict}
use Rattle.findings.specs.declared.standing.SummaryVerdict.TheVariants.{Stands, Fails}
use Rattle.proof_text.specs.Faults.{fault_after}
use Rattle.proof_text.specs.Laws.{limits_of}
use Rattle.proof_text.specs.LineForms.{lines_before}
use Rattle.proof_text.specs.declared.fault.ProofFault.{ProofFault}
use Rattle.proof_text.specs.declared.read.ReadProof.{ReadProof}
use Rattle.run_inputs.specs.declared.printed.Printed.{Printed}
use Rattle.run_inputs.specs.declared.status.Status.TheVariants.{BadProof}
use Rattle.run_inputs.specs.Printing.{PrintsText}
use Rattle.summary_answers.specs.declared.subject.Subject.{Subject}
use Rattle.summary_answers.specs.Subjects.{subject_plan}
use Rattle.certified_summaries.specs.CoverProofs.{ClosesBehind, FailsBehindAt, LeaveNobodyOut, OfCover, fault_of_cover}
use Rattle.refute_check.specs.Queries.{ClosesAll}
use Rattle.certified_summaries.specs.CoverTexts.{not_summary_line}
use Rattle.certified_summaries.specs.Heads.{ArePairLines, IsHead, head_lines}
use Rattle.certified_summaries.specs.Judged.{HasHeadLines, IsBadCertificatePrinted, IsClosingPrinted, IsListJudged, IsReadJudged, all_holds, bad_certificate, failing_node, failing_pair}
use Rattle.certified_summaries.proofs.Heading.{lines-count}

-- ---- heads

-- the findings of the pairs of lines
pub pairs-findings : (schema : Schema) (ds : List Stratum) (front : List (List ℕ)) (pairs : List (List ℕ × Request)) → ArePairLines schema ds front pairs → All (IsFinding ds) (findings_of pairs)
pairs-findings schema ds [] [] are = All-nil (IsFinding ds)
pairs-findings schema ds [] (p ∷ pairs) are = absurd are
pairs-findings schema ds (l ∷ []) pairs are = absurd are
pairs-findings schema ds (l ∷ m ∷ front) [] are = absurd are
pairs-findings schema ds (l ∷ m ∷ front) (p ∷ pairs) are =
    All-cons (IsFinding ds) p.0 (findings_of pairs) are.0.finding.finding (pairs-findings schema ds front pairs are.1)

pub head-findings : (schema : Schema) (ds : List Stratum) (bytes : List ℕ) (pairs : List (List ℕ × Request)) → IsHead schema ds bytes pairs → All (IsFinding ds) (findings_of pairs)
head-findings schema ds bytes pairs is = pairs-findings schema ds is.front pairs is.are

pub head-has : (schema : Schema) (ds : List Stratum) (bytes : List ℕ) (pairs : List (List ℕ × Request)) → IsHead schema ds bytes pairs → HasHeadLines bytes pairs
head-has schema ds bytes pairs is = record {
  few = is.few;
  lines = omega (arith, ap length is.lines, length-append is.front is.behind, lines-count schema ds is.front pairs is.are);
}

-- the certificate stands behind the lines of the head
pub front-is : (bytes : List ℕ) (pairs : List (List ℕ × Request)) (line : ℕ) → HasHeadLines bytes pairs → line ≡ 2 * length pairs + 2 → lines_before line bytes ≡ head_lines pairs
front-is bytes pairs line has is = omega (arith, has.lines, is)

-- ---- certificates

pub certificate-bad : (schema : Schema) (q : Query) (pairs : List (List ℕ × Request)) (bytes : List ℕ) (tests line : ℕ) (fault : ProofFault) → HasHeadLines bytes pairs → line ≡ 2 * length pairs + 2 → tests ≡ length q.tests →
    fault_after (record { tests = tests; version = schema.version }) (lines_before line bytes) bytes ≡ Some fault → fault_of_cover schema q (head_lines pairs) bytes ≡ Some fault
certificate-bad schema q pairs bytes tests line fault has at count is =
    subst (λ (n : ℕ). fault_after (limits_of q.tests schema.version) n bytes ≡ Some fault) (front-is bytes pairs line has at)
    (subst (λ (n : ℕ). fault_after (record { tests = n; version = schema.version }) (lines_before line bytes) bytes ≡ Some fault) count is)

-- ---- covers

-- the cover's query, of the region
pub cover-of : (subject : Subject) (base : Query) (strata : Strata) (fs : List (List ℕ)) (q : Query) (P : Query → Type 0) → AreMadeFor subject.schema subject.region base strata → IsCoverOf base strata fs q → P q → OfCover subject.schema subject.region strata.dimensions fs P
cover-of subject base strata fs q P made cover holds = record { query = q; is = cover.plan (subject_plan subject) made.query; holds = holds }

-- where it is closed, the findings leave out nobody
pub nobody-out : ClosedCoversLeaveNobodyOut → (subject : Subject) (base : Query) (strata : Strata) (fs : List (List ℕ)) (q : Query) (read : ReadProof) → AreMadeFor subject.schema subject.region base strata → All (IsFinding strata.dimensions) fs → IsCoverOf base strata fs q →
    ClosesAll subject.schema q (proof_of read.refutation.value) → LeaveNobodyOut subject.schema subject.region strata.dimensions fs
nobody-out law subject base strata fs q read made findings cover closes =
    law subject.schema subject.region strata fs (record {
      base = base;
      made = made;
      findings = findings;
      query = q;
      is = cover.plan (subject_plan subject) made.query;
      refutation = read.refutation.value;
      closes = closes;
    })

-- ---- what is printed

module _ (subject : Subject) (base : Query) (strata : Strata) (pairs : List (List ℕ × Request)) (q : Query) (read : ReadProof) (p : Printed) (made : AreMadeFor subject.schema subject.region base strata) (cover : IsCoverOf base strata (findings_of pairs) q) where
  -- of a list that doesn't stand
  pub judged-failing : (place line : ℕ) (verdict : SummaryVerdict) → JudgesSummary subject.schema base strata pairs verdict → verdict ≡ Fails place → line ≡ 2 * place + 2 → PrintsText (not_summary_line line) BadProof p → IsReadJudged subject strata.dimensions pairs q read p
  judged-failing place line verdict judged fails at told bytes is =
      let first : IsSummaryVerdict subject.schema subject.region strata.dimensions pairs (Fails place) = subst (IsSummaryVerdict subject.schema subject.region strata.dimensions pairs) fails (judged subject.region made) in
      failing_pair (cover-of subject base strata (findings_of pairs) q (λ r. fault_of_cover subject.schema r (head_lines pairs) bytes ≡ None) made cover is.faultless)
      first (subst (λ (n : ℕ). PrintsText (not_summary_line n) BadProof p) at told)

  -- of one that stands
  pub judged-standing : ClosedCoversLeaveNobodyOut → All (IsFinding strata.dimensions) (findings_of pairs) → (verdict : SummaryVerdict) → JudgesSummary subject.schema base strata pairs verdict → verdict ≡ Stands → IsClosingPrinted subject.schema q read p → IsReadJudged subject strata.dimensions pairs q read p
  judged-standing law findings verdict judged stands (inl closed) bytes is =
      let standing : IsSummaryVerdict subject.schema subject.region strata.dimensions pairs Stands = subst (IsSummaryVerdict subject.schema subject.region strata.dimensions pairs) stands (judged subject.region made) in
      all_holds
      (cover-of subject base strata (findings_of pairs) q (λ r. ClosesBehind subject.schema r (head_lines pairs) bytes) made cover
      (record { faultless = is.faultless; proof = proof_of read.refutation.value; spelled = is.spelled; small = is.small; closes = closed.0 }))
      (record { stands = standing; covers = nobody-out law subject base strata (findings_of pairs) q read made findings cover closed.0 })
      closed.1
  judged-standing law findings verdict judged stands (inr (node, line, fails, at, told)) bytes is =
      let standing : IsSummaryVerdict subject.schema subject.region strata.dimensions pairs Stands = subst (IsSummaryVerdict subject.schema subject.region strata.dimensions pairs) stands (judged subject.region made) in
      failing_node standing
      (cover-of subject base strata (findings_of pairs) q (λ r. FailsBehindAt subject.schema r (head_lines pairs) bytes line) made cover
      (record {
        faultless = is.faultless;
        proof = proof_of read.refutation.value;
        spelled = is.spelled;
        small = is.small;
        node = node;
        fails = fails;
        line_is = subst (λ (ls : List ℕ). slice_get ls node ≡ Some line) is.lines at;
      }))
      told

-- of a certificate with a fault
pub judged-bad : (subject : Subject) (base : Query) (strata : Strata) (pairs : List (List ℕ × Request)) (q : Query) (p : Printed) → AreMadeFor subject.schema subject.region base strata → IsCoverOf base strata (findings_of pairs) q → (bytes : List ℕ) → IsBadCertificatePrinted subject.schema q pairs bytes p → IsListJudged subject strata.dimensions bytes pairs p
judged-bad subject base strata pairs q p made cover bytes bad =
    bad_certificate {fault = bad.fault} (cover-of subject base strata (findings_of pairs) q (λ r. fault_of_cover subject.schema r (head_lines pairs) bytes ≡ Some bad.fault) made cover bad.is) bad.prints

-- a pair that fails is one of them
pub failing-within : (subject : Subject) (base : Query) (strata : Strata) (pairs : List (List ℕ × Request)) (place : ℕ) (verdict : SummaryVerdict) → AreMadeFor subject.schema subject.region base strata → JudgesSummary subject.schema base strata pairs verdict → verdict ≡ Fails place → place < length pairs
failing-within subject base strata pairs place verdict made judged fails =
    let first : IsSummaryVerdict subject.schema subject.region strata.dimensions pairs (Fails place) = subst (IsSummaryVerdict subject.schema subject.region strata.dimensions pairs) fails (judged subject.region made) in
    slice_get_within pairs place first.failing.pair first.failing.at

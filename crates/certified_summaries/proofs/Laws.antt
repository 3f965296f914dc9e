-- Which statuses what is printed has, and when the answer comes.
use Rattle.std.proofs.Common.{◌≡◌, ◌⊎◌, ℕ, List, [], Err, inl, inr}
use Rattle.command_words.specs.Asked.{Summarising, SummaryCheck}
use Rattle.findings.specs.Summaries.{findings_of}
use Rattle.policy_compile.specs.declared.outcome.Query.{Query}
use Rattle.policy_compile.specs.Numbering.{HasTooMany}
use Rattle.policy_compile.specs.Plans.{tests_in}
use Rattle.policy_compile.specs.Queries.{HasTooManyPieces, IsQuery}
use Rattle.policy_model.specs.declared.request.Request.{Request}
use Rattle.strata.specs.Causes.{AreStrataOf}
use Rattle.strata.specs.declared.names.TheConstants.{MOST_PREDICATES}
use Rattle.strata.specs.declared.outcome.StrataFault.{StrataFault}
use Rattle.strata.specs.declared.outcome.StrataFault.TheVariants as cause
use Rattle.strata.specs.declared.stratum.Stratum.{Stratum}
use Rattle.summary_search.specs.declared.outcome.Limits.{Limits}
use Rattle.run_inputs.specs.declared.printed.Printed.{Printed}
use Rattle.run_inputs.specs.declared.status.Status.{Status}
use Rattle.run_inputs.specs.declared.status.Status.TheVariants as status
use Rattle.run_inputs.specs.Printing.{IsOfText}
use Rattle.run_inputs.specs.declared.refusal.Refusal.{Refusal}
use Rattle.run_inputs.specs.declared.refusal.Refusal.TheVariants as refusal
use Rattle.run_inputs.specs.OneSets.{one_of, SetContents}
use Rattle.run_inputs.proofs.Laws.{no_one_fails, of_same_set, refusal_with, with_status}
use Rattle.summary_answers.specs.declared.answer.Found.{Found}
use Rattle.summary_answers.specs.declared.subject.Subject.{Subject}
use Rattle.summary_answers.specs.Dimensions.{NameSlots, dimension_slots}
use Rattle.run_inputs.specs.PastLimits.{IsPlanPastLimit}
use Rattle.summary_answers.specs.Printed.{HasStatusOf, StatusRule, always_holds, limits_in}
use Rattle.summary_answers.specs.Subjects.{subject_of_set, subject_plan}
use Rattle.summary_answers.proofs.Laws.{many_fails, not_found_of_text, summarisable_subjects_are_found, unknown_fails}
use Rattle.certified_summaries.specs.Certified.{IsCertifiedSummaryPrinted, IsCoverSaid, IsSubjectCertified, IsSummaryCertified, large_query, short_of_splits, short_of_states, with_certificate}
use Rattle.certified_summaries.specs.CoverProofs.{CoverIsTooLarge}
use Rattle.certified_summaries.specs.Decides.{CertifiedSummariesDecide, FitsCover, IsCertifiable, IsJudgeable, NameFew, SummaryChecksDecide}
use Rattle.certified_summaries.specs.Judged.{IsJudged, IsListJudged, IsSubjectChecked, IsSummaryCheckPrinted, all_holds, bad_certificate, failing_node, failing_pair, large_cover}
use Rattle.certified_summaries.specs.Made.{AreNarrow, IsNotMade, PrintsUnmade}

-- ---- statuses

cover_with : (s : Status) → IsOfText s → (limits : Limits) (subject : Subject) (found : Found) (p : Printed) → IsCoverSaid s limits subject found p → IsOfText p.status
cover_with s text limits subject found p (large_query large told) = with_status p status.Refused tt told.1
cover_with s text limits subject found p (short_of_splits of told) = with_status p status.Undecided tt told.1
cover_with s text limits subject found p (short_of_states of told) = with_status p status.Undecided tt told.1
cover_with s text limits subject found p (with_certificate of told) = with_status p s text told.1

-- what is printed of a region with a certificate has the status of a text, where its findings have one
pub certified_of_text : (status_of : StatusRule) → ((summary : List (List ℕ × Request)) → IsOfText (status_of summary)) → (names : List (List ℕ)) (limits : Limits) (subject : Subject) (p : Printed) → IsSubjectCertified status_of names limits subject p → IsOfText p.status
certified_of_text status_of texts names limits subject p (inl none) = not_found_of_text names limits subject p none
certified_of_text status_of texts names limits subject p (inr is) = cover_with (status_of is.found.summary) (texts is.found.summary) limits subject is.found p is.printed

pub certified_summary_of_text : (s : Summarising) (c : SetContents) (p : Printed) → IsCertifiedSummaryPrinted s c p → IsOfText p.status
certified_summary_of_text s c p is = by is.printed
  where
    by : IsSummaryCertified s c p → IsOfText p.status
    by (inl none) = refusal_with _ p none
    by (inr of) = certified_of_text always_holds (λ summary. tt) s.dimensions (limits_in s) _ p of.holds.holds

unmade_with : (names : List (List ℕ)) (states : ℕ) (fault : StrataFault) (p : Printed) → PrintsUnmade names states fault p → IsOfText p.status
unmade_with names states (cause.TooManyPredicates d) p told = with_status p status.Refused tt told.1
unmade_with names states (cause.Wide s texts) p told = with_status p status.Undecided tt told.1
unmade_with names states cause.NoMemory p told = absurd told

not_made_with : (names : List (List ℕ)) (most states : ℕ) (subject : Subject) (p : Printed) → IsNotMade names most states subject p → IsOfText p.status
not_made_with names most states subject p (inl unknown) = with_status p status.Refused tt unknown.prints.1
not_made_with names most states subject p (inr (known, inl past)) = refusal_with _ p past
not_made_with names most states subject p (inr (known, inr un)) = unmade_with names states un.fault p un.prints

list_with : (subject : Subject) (ds : List Stratum) (bytes : List ℕ) (pairs : List (List ℕ × Request)) (p : Printed) → IsListJudged subject ds bytes pairs p → IsOfText p.status
list_with subject ds bytes pairs p (large_cover large told) = with_status p status.Refused tt told.1
list_with subject ds bytes pairs p (bad_certificate of told) = with_status p status.BadProof tt told.1
list_with subject ds bytes pairs p (failing_pair of first told) = with_status p status.BadProof tt told.1
list_with subject ds bytes pairs p (failing_node stands of told) = with_status p status.BadProof tt told.1
list_with subject ds bytes pairs p (all_holds of by told) = with_status p status.Holds tt told.1

judged_with : (subject : Subject) (ds : List Stratum) (bytes : List ℕ) (p : Printed) → IsJudged subject ds bytes p → IsOfText p.status
judged_with subject ds bytes p (inl bad) = with_status p status.BadProof tt bad.prints.1
judged_with subject ds bytes p (inr of) = list_with subject ds bytes of.pairs p of.holds

-- and so has what is printed to a check
pub checked_of_text : (names : List (List ℕ)) (most states : ℕ) (bytes : List ℕ) (subject : Subject) (p : Printed) → IsSubjectChecked names most states bytes subject p → IsOfText p.status
checked_of_text names most states bytes subject p (inl none) = not_made_with names most states subject p none
checked_of_text names most states bytes subject p (inr of) = judged_with subject of.strata.dimensions bytes p of.holds

pub summary_check_of_text : (asked : SummaryCheck) (bytes : List ℕ) (c : SetContents) (p : Printed) → IsSummaryCheckPrinted asked bytes c p → IsOfText p.status
summary_check_of_text asked bytes c p (inl none) = refusal_with _ p none
summary_check_of_text asked bytes c p (inr of) = checked_of_text asked.dimensions MOST_PREDICATES asked.states bytes _ p of.holds.holds

-- ---- summaries that are certified

cover_decides : (s : Status) (limits : Limits) (subject : Subject) (found : Found) (p : Printed) → FitsCover limits subject found → IsCoverSaid s limits subject found p → p.status ≡ s
cover_decides s limits subject found p fits (large_query large told) = absurd (fits.tests large)
cover_decides s limits subject found p fits (short_of_splits of told) = absurd (fits.splits of)
cover_decides s limits subject found p fits (short_of_states {w = w} of told) = absurd (fits.states w of)
cover_decides s limits subject found p fits (with_certificate of told) = told.1

-- within the limits a summary comes with a certificate
pub certifiable_subjects_decide : (status_of : StatusRule) (names : List (List ℕ)) (limits : Limits) (subject : Subject) (p : Printed) → IsCertifiable names limits subject → IsSubjectCertified status_of names limits subject p → HasStatusOf status_of p
certifiable_subjects_decide status_of names limits subject p d (inl none) = absurd (summarisable_subjects_are_found names limits subject p d.summarisable none)
certifiable_subjects_decide status_of names limits subject p d (inr is) = (is.found.summary, cover_decides (status_of is.found.summary) limits subject is.found p (d.covers is.found is.is) is.printed)

pub certified_summaries_decide : CertifiedSummariesDecide
certified_summaries_decide s c p d is = by is.printed
  where
    by : IsSummaryCertified s c p → p.status ≡ status.Holds
    by (inl (r, none, told)) = absurd (no_one_fails c.set c.schema (λ one. IsCertifiable s.dimensions (limits_in s) (subject_of_set one)) d r none)
    by (inr of) =
        let same = of_same_set c.set c.schema _ _ d of in
        (certifiable_subjects_decide always_holds s.dimensions (limits_in s) (subject_of_set (one_of d.named d.set)) p d.holds.holds same.holds).1

-- ---- files that are judged

module _ (names : List (List ℕ)) (most states : ℕ) (subject : Subject) (p : Printed) where
  -- where few predicates are named of each dimension, and narrow ones, strata are made
  unmade_fails : NameFew names most subject → AreNarrow names states subject → (q : Query) → IsQuery (subject_plan subject) q → (fault : StrataFault) → AreStrataOf most subject.schema states q (dimension_slots names) (Err fault) → PrintsUnmade names states fault p → ⊥
  unmade_fails few narrow q is (cause.TooManyPredicates d) why told = many_fails most q (dimension_slots names) d (few q is) why
  unmade_fails few narrow q is (cause.Wide s texts) why told = narrow q is s texts why.0 why.2
  unmade_fails few narrow q is cause.NoMemory why told = told

  not_past : ¬ HasTooMany [] (tests_in (subject_plan subject)) → ¬ HasTooManyPieces (subject_plan subject) → (r : Refusal) → IsPlanPastLimit (subject_plan subject) r → ⊥
  not_past tests pieces refusal.TooManyTests v = tests v
  not_past tests pieces refusal.TooManyPieces v = pieces v
  not_past tests pieces (refusal.BadSchema fault) v = v
  not_past tests pieces (refusal.BadSet file fault) v = v
  not_past tests pieces (refusal.BadCondition file fault) v = v

  pub not_made_fails : NameSlots subject.schema names → ¬ HasTooMany [] (tests_in (subject_plan subject)) → ¬ HasTooManyPieces (subject_plan subject) → NameFew names most subject → AreNarrow names states subject → IsNotMade names most states subject p → ⊥
  not_made_fails known tests pieces few narrow (inl unknown) = unknown_fails subject.schema names unknown.element known unknown.first
  not_made_fails known tests pieces few narrow (inr (also, inl (r, past, told))) = not_past tests pieces r past
  not_made_fails known tests pieces few narrow (inr (also, inr un)) = unmade_fails few narrow un.query un.is un.fault un.cause un.prints

  list_decides : (ds : List Stratum) (bytes : List ℕ) (pairs : List (List ℕ × Request)) → ¬ CoverIsTooLarge subject.schema subject.region ds (findings_of pairs) → IsListJudged subject ds bytes pairs p → (p.status ≡ status.Holds) ⊎ (p.status ≡ status.BadProof)
  list_decides ds bytes pairs small (large_cover large told) = absurd (small large)
  list_decides ds bytes pairs small (bad_certificate of told) = inr told.1
  list_decides ds bytes pairs small (failing_pair of first told) = inr told.1
  list_decides ds bytes pairs small (failing_node stands of told) = inr told.1
  list_decides ds bytes pairs small (all_holds of by told) = inl told.1

  -- a file that can be judged is accepted, or it is bad
  pub judgeable_subjects_decide : (bytes : List ℕ) → IsJudgeable names most states bytes subject → IsSubjectChecked names most states bytes subject p → (p.status ≡ status.Holds) ⊎ (p.status ≡ status.BadProof)
  judgeable_subjects_decide bytes d (inl none) = absurd (not_made_fails d.known d.tests d.pieces d.few d.narrow none)
  judgeable_subjects_decide bytes d (inr of) = elim of.holds [
    | inl bad ↦ inr bad.prints.1
    | inr head ↦ list_decides of.strata.dimensions bytes head.pairs (d.covers of.query of.strata head.pairs of.is head.is) head.holds
  ]

pub summary_checks_decide : SummaryChecksDecide
summary_checks_decide asked bytes c p d (inl (r, none, told)) = absurd (no_one_fails c.set c.schema (λ one. IsJudgeable asked.dimensions MOST_PREDICATES asked.states bytes (subject_of_set one)) d r none)
summary_checks_decide asked bytes c p d (inr of) =
    let same = of_same_set c.set c.schema _ _ d of in
    judgeable_subjects_decide asked.dimensions MOST_PREDICATES asked.states (subject_of_set (one_of d.named d.set)) p bytes d.holds.holds same.holds

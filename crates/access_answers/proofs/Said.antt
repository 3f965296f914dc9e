-- What is printed of new access is what is printed of the findings of its region.
use Rattle.std.proofs.Common.{ℕ, List, true, false, inl, inr}
use Rattle.summary_search.specs.declared.outcome.Limits.{Limits}
use Rattle.run_inputs.specs.declared.pair.Pair.{Pair}
use Rattle.run_inputs.specs.declared.printed.Printed.{Printed}
use Rattle.summary_answers.specs.Printed.{IsSubjectPrinted, status_by}
use Rattle.summary_answers.specs.Subjects.{subject_of_pair}
use Rattle.certified_summaries.specs.Certified.{IsSubjectCertified}
use Rattle.findings.specs.Laws.{SummariesCover}
use Rattle.run_inputs.specs.Pairs.{IsFitting}
use Rattle.access_answers.specs.NewAccessPrinted.{IsNewAccessOfPair}
use Rattle.access_answers.proofs.Changes.{found-are}

module _ (names : List (List ℕ)) (limits : Limits) (pair : Pair) (p : Printed) where
  pub as-certified : IsNewAccessOfPair true names limits pair p → IsSubjectCertified status_by names limits (subject_of_pair pair) p
  as-certified (inl none) = inl none
  as-certified (inr f) = inr (record { found = f.found; is = f.is; printed = f.printed })

  pub as-printed : IsNewAccessOfPair false names limits pair p → IsSubjectPrinted status_by names limits (subject_of_pair pair) p
  as-printed (inl none) = inl none
  as-printed (inr f) = inr (record { found = f.found; is = f.is; prints = f.printed })

module _ (covers : SummariesCover) (names : List (List ℕ)) (limits : Limits) (pair : Pair) (fitting : IsFitting pair) (p : Printed) where
  pub of-certified : IsSubjectCertified status_by names limits (subject_of_pair pair) p → IsNewAccessOfPair true names limits pair p
  of-certified (inl none) = inl none
  of-certified (inr f) = inr (record { found = f.found; is = f.is; says = found-are covers names limits pair fitting f.found f.is; printed = f.printed })

  pub of-printed : IsSubjectPrinted status_by names limits (subject_of_pair pair) p → IsNewAccessOfPair false names limits pair p
  of-printed (inl none) = inl none
  of-printed (inr f) = inr (record { found = f.found; is = f.is; says = found-are covers names limits pair fitting f.found f.is; printed = f.prints })

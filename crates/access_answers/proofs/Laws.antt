-- Which statuses are printed to the question what is newly allowed and to a check of an answer to it, and when the answers come.
use Rattle.std.proofs.Common.{◌∙◌, ℕ, List, Bool, true, false, inl, inr}
use Rattle.command_words.specs.Asked.{Summarising, SummaryCheck}
use Rattle.summary_search.specs.declared.outcome.Limits.{Limits}
use Rattle.run_inputs.specs.declared.pair.Pair.{Pair}
use Rattle.run_inputs.specs.declared.printed.Printed.{Printed}
use Rattle.run_inputs.specs.declared.status.Status.TheVariants as status
use Rattle.run_inputs.specs.Pairs.{Contents, pair_of}
use Rattle.run_inputs.specs.Printing.{IsOfText}
use Rattle.run_inputs.proofs.Laws.{no_pair_fails, of_same, refusal_with}
use Rattle.summary_answers.specs.Printed.{HasStatusOf, change_limits_in, status_by}
use Rattle.summary_answers.specs.Subjects.{subject_of_pair}
use Rattle.summary_answers.specs.declared.limits.TheConstants.{MOST_CHANGE_PREDICATES}
use Rattle.summary_answers.proofs.Laws.{printed_of_text, status_by_of_text, status_is_by, subjects_decide}
use Rattle.certified_summaries.specs.Decides.{HoldsOrFails}
use Rattle.certified_summaries.proofs.Laws.{certifiable_subjects_decide, certified_of_text, checked_of_text, judgeable_subjects_decide}
use Rattle.access_answers.specs.NewAccessChecked.{IsNewAccessCheckPrinted}
use Rattle.access_answers.specs.NewAccessComplete.{IsNewAccessFindable, NewAccessChecksDecide, NewAccessDecides}
use Rattle.access_answers.specs.NewAccessPrinted.{IsNewAccessOfFiles, IsNewAccessOfPair, IsNewAccessPrinted}
use Rattle.access_answers.proofs.Said.{as-certified, as-printed}

-- ---- statuses

pair_with : (certified : Bool) (names : List (List ℕ)) (limits : Limits) (pair : Pair) (p : Printed) → IsNewAccessOfPair certified names limits pair p → IsOfText p.status
pair_with true names limits pair p said = certified_of_text status_by status_by_of_text names limits (subject_of_pair pair) p (as-certified names limits pair p said)
pair_with false names limits pair p said = printed_of_text status_by status_by_of_text names limits (subject_of_pair pair) p (as-printed names limits pair p said)

said_with : (s : Summarising) (certified : Bool) (c : Contents) (p : Printed) → IsNewAccessOfFiles s certified c p → IsOfText p.status
said_with s certified c p (inl none) = refusal_with _ p none
said_with s certified c p (inr of) = pair_with certified s.dimensions (change_limits_in s) _ p of.holds.holds

pub new_access_of_text : (s : Summarising) (certified : Bool) (c : Contents) (p : Printed) → IsNewAccessPrinted s certified c p → IsOfText p.status
new_access_of_text s certified c p is = said_with s certified c p is.printed

pub new_access_check_of_text : (asked : SummaryCheck) (bytes : List ℕ) (c : Contents) (p : Printed) → IsNewAccessCheckPrinted asked bytes c p → IsOfText p.status
new_access_check_of_text asked bytes c p (inl none) = refusal_with _ p none
new_access_check_of_text asked bytes c p (inr of) =
    checked_of_text asked.dimensions MOST_CHANGE_PREDICATES asked.states bytes _ p of.holds.holds.checked

-- ---- answers that must come

by_status : (p : Printed) → HasStatusOf status_by p → HoldsOrFails p
by_status p (summary, is) = elim (status_is_by summary) [
  | inl holds ↦ inl (is ∙ holds)
  | inr fails ↦ inr (is ∙ fails)
]

pair_decides : (certified : Bool) (names : List (List ℕ)) (limits : Limits) (pair : Pair) (p : Printed) → IsNewAccessFindable certified names limits pair → IsNewAccessOfPair certified names limits pair p → HoldsOrFails p
pair_decides true names limits pair p d said = by_status p (certifiable_subjects_decide status_by names limits (subject_of_pair pair) p d (as-certified names limits pair p said))
pair_decides false names limits pair p d said = by_status p (subjects_decide status_by names limits (subject_of_pair pair) p d (as-printed names limits pair p said))

pub new_access_decides : NewAccessDecides
new_access_decides s certified c p d is = by is.printed
  where
    by : IsNewAccessOfFiles s certified c p → HoldsOrFails p
    by (inl (r, none, told)) = absurd (no_pair_fails c (IsNewAccessFindable certified s.dimensions (change_limits_in s)) d r none)
    by (inr of) =
        let same = of_same c _ _ d of in
        pair_decides certified s.dimensions (change_limits_in s) (pair_of d.named d.one d.two) p d.holds.holds same.holds

pub new_access_checks_decide : NewAccessChecksDecide
new_access_checks_decide asked bytes c p d (inl (r, none, told)) = absurd (no_pair_fails c _ d r none)
new_access_checks_decide asked bytes c p d (inr of) =
    let same = of_same c _ _ d of in
    judgeable_subjects_decide asked.dimensions MOST_CHANGE_PREDICATES asked.states (subject_of_pair (pair_of d.named d.one d.two)) p bytes d.holds.holds same.holds.checked

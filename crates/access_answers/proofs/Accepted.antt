-- What is printed of a change with a certificate is accepted by a check of the same files.
use Rattle.std.proofs.Common.{◌≡◌, ◌⊎◌, ◌≤◌, ℕ, List, Bool, true, inl, inr, subst}
use Rattle.std.specs.Prelude.{string_bytes}
use Rattle.command_words.specs.Asked.{Summarising, SummaryCheck}
use Rattle.command_words.specs.declared.limits.TheConstants.{MOST_FINDINGS}
use Rattle.run_inputs.specs.declared.printed.Printed.{Printed}
use Rattle.run_inputs.specs.declared.refusal.Refusal.{Refusal}
use Rattle.run_inputs.specs.Pairs.{Contents, pair_of}
use Rattle.run_inputs.specs.Refusals.{IsRefusedBy}
use Rattle.run_inputs.proofs.Laws.{no_pair_fails, of_same}
use Rattle.summary_answers.specs.Printed.{change_limits_in, status_by}
use Rattle.summary_answers.specs.Subjects.{subject_of_pair}
use Rattle.summary_answers.specs.declared.limits.TheConstants.{MOST_CHANGE_PREDICATES}
use Rattle.certified_summaries.specs.Decides.{CertifiedSubjectsAreAccepted, HoldsOrFails}
use Rattle.certified_summaries.specs.Judged.{IsSubjectChecked}
use Rattle.certified_summaries.specs.Made.{AreNarrow}
use Rattle.access_answers.specs.NewAccessPrinted.{IsAcceptedByNewAccessChecks, IsNewAccessOfFiles, IsNewAccessPrinted}
use Rattle.access_answers.proofs.Said.{as-certified}

refused-not : (Q : Refusal → Type 0) (p : Printed) → IsRefusedBy Q p → HoldsOrFails p → ⊥
refused-not Q p (r, is, told) (inl holds) = let refused = told.1 in absurd (cc)
refused-not Q p (r, is, told) (inr fails) = let refused = told.1 in absurd (cc)

accepted : CertifiedSubjectsAreAccepted → (s : Summarising) (c : Contents) (p : Printed) → s.findings ≤ MOST_FINDINGS → IsNewAccessOfFiles s true c p → IsAcceptedByNewAccessChecks s c p
accepted law s c p few (inl refused) asked q answered short same narrow checked = absurd (refused-not _ p refused answered)
accepted law s c p few (inr given) asked q answered short same narrow (inl (r, not, told)) = absurd (no_pair_fails c _ given r not)
accepted law s c p few (inr given) asked q answered short same narrow (inr of) =
    let checks = of_same c _ _ given of in
    let narrows = of_same c _ _ given narrow in
    let subject = subject_of_pair (pair_of given.named given.one given.two) in
    let named : IsSubjectChecked s.dimensions MOST_CHANGE_PREDICATES asked.states (string_bytes p.text) subject q =
    subst (λ (ns : List (List ℕ)). IsSubjectChecked ns MOST_CHANGE_PREDICATES asked.states (string_bytes p.text) subject q) same checks.holds.checked in
    let fits : AreNarrow s.dimensions asked.states subject = subst (λ (ns : List (List ℕ)). AreNarrow ns asked.states subject) same narrows.holds in
    law status_by s.dimensions (change_limits_in s) asked.states subject p q
    (record { bytes = c.first; stands = given.first_stands }, record { bytes = c.second; stands = given.second_stands })
    few (as-certified s.dimensions (change_limits_in s) (pair_of given.named given.one given.two) p given.holds.holds) answered short fits named

pub with-acceptance : CertifiedSubjectsAreAccepted → (s : Summarising) (certified : Bool) (c : Contents) (p : Printed) → s.findings ≤ MOST_FINDINGS → IsNewAccessOfFiles s certified c p → IsNewAccessPrinted s certified c p
with-acceptance law s certified c p few said = record {
  printed = said;
  accepted = λ is. accepted law s c p few (subst (λ (b : Bool). IsNewAccessOfFiles s b c p) is said);
}

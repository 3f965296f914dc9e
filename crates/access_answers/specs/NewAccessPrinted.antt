-- What may be printed to the question what a change of sets newly allows.
use Rattle.std.specs.Prelude.{◌≡◌, ◌⊎◌, ◌≤◌, ℕ, List, length, Bool, true, false, string_bytes}
use Rattle.command_words.specs.Asked.{Summarising, SummaryCheck}
use Rattle.proof_text.specs.declared.limits.TheConstants.{MOST_PROOF_BYTES}
use Rattle.summary_search.specs.declared.outcome.Limits.{Limits}
use Rattle.run_inputs.specs.declared.pair.Pair.{Pair}
use Rattle.run_inputs.specs.declared.printed.Printed.{Printed}
use Rattle.run_inputs.specs.declared.status.Status.TheVariants.{Holds}
use Rattle.run_inputs.specs.CertificateLines.{accepted_line}
use Rattle.run_inputs.specs.Pairs.{Contents, IsPairRefusal, SomePair}
use Rattle.run_inputs.specs.Printing.{PrintsText}
use Rattle.run_inputs.specs.Refusals.{IsRefusedBy}
use Rattle.summary_answers.specs.declared.answer.Found.{Found}
use Rattle.summary_answers.specs.FindingTexts.{found_text}
use Rattle.summary_answers.specs.Found.{IsFoundOf, IsNotFound}
use Rattle.summary_answers.specs.Printed.{change_limits_in, status_by}
use Rattle.summary_answers.specs.Subjects.{subject_of_pair}
use Rattle.certified_summaries.specs.Certified.{IsCoverSaid}
use Rattle.certified_summaries.specs.Decides.{HoldsOrFails}
use Rattle.certified_summaries.specs.Made.{AreNarrow}
use Rattle.access_answers.specs.NewAccess.{AreOfAllNewAccess}
use Rattle.access_answers.specs.NewAccessChecked.{IsNewAccessCheckPrinted}

-- the findings are printed, with a certificate behind them where one is asked for; or why there is none. The status is `Fails` where
-- there is a finding, and `Holds` where there is none
abbrev pub IsNewAccessSaid : Bool → Limits → Pair → Found → Printed → Type 0
IsNewAccessSaid true limits pair found p = IsCoverSaid (status_by found.summary) limits (subject_of_pair pair) found p
IsNewAccessSaid false limits pair found p = PrintsText (found_text found) (status_by found.summary) p

-- the maximal irreducible findings of what the first set allows and the second doesn't are printed. They are those of all new access
pub record IsNewAccessFound (certified : Bool) (names : List (List ℕ)) (limits : Limits) (pair : Pair) (p : Printed) : Type 0 where
  pub found : Found
  pub is : IsFoundOf names limits (subject_of_pair pair) found
  pub says : AreOfAllNewAccess pair found.strata.dimensions found.summary
  pub printed : IsNewAccessSaid certified limits pair found p

-- of a pair under the schema of its run: why there are no findings, or what is printed of them
abbrev pub IsNewAccessOfPair : Bool → List (List ℕ) → Limits → Pair → Printed → Type 0
IsNewAccessOfPair certified names limits pair p =
    IsNotFound names limits (subject_of_pair pair) p ⊎ IsNewAccessFound certified names limits pair p

-- of files: why they stand for no pair, or what is printed of the pair that they stand for
abbrev pub IsNewAccessOfFiles : Summarising → Bool → Contents → Printed → Type 0
IsNewAccessOfFiles s certified c p =
    IsRefusedBy (IsPairRefusal c) p ⊎ SomePair c (λ pair. IsNewAccessOfPair certified s.dimensions (change_limits_in s) pair p)

-- where findings are printed with a certificate, each check of the same files, by the same dimensions, and of all that was printed accepts
-- it, as long as it has at most as many bytes as a certificate may have, and the check's number of states is enough for the strata
abbrev pub IsAcceptedByNewAccessChecks : Summarising → Contents → Printed → Type 0
IsAcceptedByNewAccessChecks s c p = (asked : SummaryCheck) (checked : Printed) →
    HoldsOrFails p → length (string_bytes p.text) ≤ MOST_PROOF_BYTES → asked.dimensions ≡ s.dimensions →
    SomePair c (λ pair. AreNarrow asked.dimensions asked.states (subject_of_pair pair)) →
    IsNewAccessCheckPrinted asked (string_bytes p.text) c checked → PrintsText accepted_line Holds checked

-- both
pub record IsNewAccessPrinted (s : Summarising) (certified : Bool) (c : Contents) (p : Printed) : Type 0 where
  pub printed : IsNewAccessOfFiles s certified c p
  pub accepted : certified ≡ true → IsAcceptedByNewAccessChecks s c p

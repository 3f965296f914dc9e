-- When it is found what a change of sets newly allows, and when a file of it is judged.
use Rattle.std.specs.Prelude.{◌≡◌, ◌⊎◌, ℕ, List, Bool, true, false}
use Rattle.command_words.specs.Asked.{Summarising, SummaryCheck}
use Rattle.summary_search.specs.declared.outcome.Limits.{Limits}
use Rattle.run_inputs.specs.declared.pair.Pair.{Pair}
use Rattle.run_inputs.specs.declared.printed.Printed.{Printed}
use Rattle.run_inputs.specs.declared.status.Status.TheVariants.{Holds, BadProof}
use Rattle.run_inputs.specs.Pairs.{Contents, SomePair}
use Rattle.summary_answers.specs.Complete.{IsSummarisable}
use Rattle.summary_answers.specs.Printed.{change_limits_in}
use Rattle.summary_answers.specs.Subjects.{subject_of_pair}
use Rattle.summary_answers.specs.declared.limits.TheConstants.{MOST_CHANGE_PREDICATES}
use Rattle.certified_summaries.specs.Decides.{HoldsOrFails, IsCertifiable, IsJudgeable}
use Rattle.access_answers.specs.NewAccessChecked.{IsNewAccessCheckPrinted}
use Rattle.access_answers.specs.NewAccessPrinted.{IsNewAccessPrinted}

-- the schema has the dimensions, the query of the pair is within its limits, and no budget is below the need of the findings nor, where a
-- certificate is asked for, of the cover of what is found
abbrev pub IsNewAccessFindable : Bool → List (List ℕ) → Limits → Pair → Type 0
IsNewAccessFindable true names limits pair = IsCertifiable names limits (subject_of_pair pair)
IsNewAccessFindable false names limits pair = IsSummarisable names limits (subject_of_pair pair)

-- the files stand for such a pair
abbrev pub IsNewAccessAccepted : Summarising → Bool → Contents → Type 0
IsNewAccessAccepted s certified c = SomePair c (IsNewAccessFindable certified s.dimensions (change_limits_in s))

-- of such files it is found
abbrev pub NewAccessDecides : Type 0
NewAccessDecides = (s : Summarising) (certified : Bool) (c : Contents) (p : Printed) →
    IsNewAccessAccepted s certified c → IsNewAccessPrinted s certified c p → HoldsOrFails p

-- the files stand for a pair whose strata can be made, and of no list that the file spells the query of the cover has too many tests
abbrev pub IsNewAccessCheckAccepted : SummaryCheck → List ℕ → Contents → Type 0
IsNewAccessCheckAccepted asked bytes c =
    SomePair c (λ pair. IsJudgeable asked.dimensions MOST_CHANGE_PREDICATES asked.states bytes (subject_of_pair pair))

-- a file for such files is accepted, or it is bad
abbrev pub NewAccessChecksDecide : Type 0
NewAccessChecksDecide = (asked : SummaryCheck) (bytes : List ℕ) (c : Contents) (p : Printed) →
    IsNewAccessCheckAccepted asked bytes c → IsNewAccessCheckPrinted asked bytes c p → (p.status ≡ Holds) ⊎ (p.status ≡ BadProof)

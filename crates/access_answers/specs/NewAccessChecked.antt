-- What may be printed to a check of a file with findings of what a change of sets newly allows, whoever wrote it.
use Rattle.std.specs.Prelude.{◌≡◌, ◌⊎◌, ℕ, List}
use Rattle.command_words.specs.Asked.{SummaryCheck}
use Rattle.policy_compile.specs.declared.outcome.Query.{Query}
use Rattle.policy_model.specs.declared.request.Request.{Request}
use Rattle.strata.specs.declared.stratum.Strata.{Strata}
use Rattle.findings.specs.StandingSummaries.{SummaryStands}
use Rattle.run_inputs.specs.declared.pair.Pair.{Pair}
use Rattle.run_inputs.specs.declared.printed.Printed.{Printed}
use Rattle.run_inputs.specs.declared.status.Status.TheVariants.{Holds}
use Rattle.run_inputs.specs.Pairs.{Contents, IsPairRefusal, SomePair}
use Rattle.run_inputs.specs.Refusals.{IsRefusedBy}
use Rattle.summary_answers.specs.Subjects.{subject_of_pair}
use Rattle.summary_answers.specs.declared.limits.TheConstants.{MOST_CHANGE_PREDICATES}
use Rattle.certified_summaries.specs.Heads.{IsHead}
use Rattle.certified_summaries.specs.Judged.{IsSubjectChecked}
use Rattle.certified_summaries.specs.Made.{IsMadeOf}
use Rattle.access_answers.specs.NewAccess.{AreOfAllNewAccess}

-- The lines before the certificate are those of findings with requests, in the order of their numbers. Each request is its finding's own,
-- no finding is finer than another, and they are those of all new access
pub record HasAllNewAccess (names : List (List ℕ)) (bytes : List ℕ) (pair : Pair) : Type 0 where
  pub query : Query
  pub strata : Strata
  pub made : IsMadeOf names MOST_CHANGE_PREDICATES (subject_of_pair pair) query strata
  pub pairs : List (List ℕ × Request)
  pub head : IsHead pair.schema strata.dimensions bytes pairs
  pub stands : SummaryStands pair.schema (subject_of_pair pair).region strata.dimensions pairs
  pub says : AreOfAllNewAccess pair strata.dimensions pairs

-- of a pair under the schema of its run: why its strata aren't made, or what is printed of the file. One that is accepted has all new
-- access
pub record IsNewAccessJudged (names : List (List ℕ)) (states : ℕ) (bytes : List ℕ) (pair : Pair) (p : Printed) : Type 0 where
  pub checked : IsSubjectChecked names MOST_CHANGE_PREDICATES states bytes (subject_of_pair pair) p
  pub sound : p.status ≡ Holds → HasAllNewAccess names bytes pair

-- of files: why they stand for no pair, or what is printed of the pair that they stand for
abbrev pub IsNewAccessCheckPrinted : SummaryCheck → List ℕ → Contents → Printed → Type 0
IsNewAccessCheckPrinted asked bytes c p =
    IsRefusedBy (IsPairRefusal c) p ⊎ SomePair c (λ pair. IsNewAccessJudged asked.dimensions asked.states bytes pair p)

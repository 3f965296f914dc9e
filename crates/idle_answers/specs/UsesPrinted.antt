-- What may be printed of the statements of a set: of each whether it is used or idle.
use Rattle.std.specs.Prelude.{◌⊎◌, List, Bool}
use Rattle.std.specs.List.{AllZip}
use Rattle.command_words.specs.Asked.{UseQuestion}
use Rattle.policy_model.specs.Requests.{HasValidRequest}
use Rattle.policy_model.specs.StatementNames.{named_set}
use Rattle.policy_compile.specs.Limits.{IsWithinLimits}
use Rattle.policy_compile.specs.Sets.{set_plan}
use Rattle.run_inputs.specs.declared.printed.Printed.{Printed}
use Rattle.run_inputs.specs.Printing.{PrintsText}
use Rattle.run_inputs.specs.declared.one_set.OneSet.{OneSet}
use Rattle.run_inputs.specs.OneSets.{IsOneSetRefusal, SomeOneSet, SetContents}
use Rattle.run_inputs.specs.PastLimits.{IsSetPastLimit}
use Rattle.run_inputs.specs.Refusals.{IsRefusedBy}
use Rattle.tree_search.specs.declared.outcome.Budgets.{Budgets}
use Rattle.idle_answers.specs.declared.answer.UseAnswer.{UseAnswer}
use Rattle.idle_answers.specs.UseAnswers.{IsUseAnswer}
use Rattle.idle_answers.specs.UseTexts.{uses_status, uses_text}

-- an answer to each statement of the set, in reading order, by their text and status, which comes only where the set's query is within
-- its limits, and there are valid requests
pub record PrintsUses (certified : Bool) (budgets : Budgets) (one : OneSet) (p : Printed) : Type 0 where
  pub within : IsWithinLimits (set_plan one.schema one.set)
  pub has_request : HasValidRequest one.schema
  pub answers : List UseAnswer
  pub are : AllZip (IsUseAnswer certified budgets one) (named_set one.set) answers
  pub prints : PrintsText (uses_text (named_set one.set) answers) (uses_status answers) p

-- of a set under the schema of its run: the limit that its query is past, or what is said of its statements
abbrev pub AreUsesPrinted : Bool → Budgets → OneSet → Printed → Type 0
AreUsesPrinted certified budgets one p = IsRefusedBy (IsSetPastLimit one.schema one.set) p ⊎ PrintsUses certified budgets one p

-- the budgets of a question on uses
abbrev pub use_budgets : UseQuestion → Budgets
use_budgets u = record { splits = u.splits; states = u.states }

-- of files: why they stand for no set, or what is printed of the set that they stand for
abbrev pub IsIdlePrinted : UseQuestion → SetContents → Printed → Type 0
IsIdlePrinted u c p =
    IsRefusedBy (IsOneSetRefusal c.set c.schema) p ⊎ SomeOneSet c.set c.schema (λ one. AreUsesPrinted u.certified (use_budgets u) one p)

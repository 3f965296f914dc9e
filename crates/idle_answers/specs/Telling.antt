-- What is said of the statements so far.
use Rattle.std.specs.Prelude.{◌≡◌, ◌||◌, ℕ, List, ◌++◌, length, Bool, false, string_bytes, if◌then◌else◌}
use Rattle.std.specs.List.{AllZip, list_any}
use Rattle.policy_model.specs.declared.set.StatementName.{StatementName}
use Rattle.policy_model.specs.StatementNames.{Named, named_set}
use Rattle.run_inputs.specs.declared.status.Status.{Status}
use Rattle.run_inputs.specs.declared.status.Status.TheVariants as status
use Rattle.run_inputs.specs.declared.one_set.OneSet.{OneSet}
use Rattle.tree_search.specs.declared.outcome.Budgets.{Budgets}
use Rattle.idle_answers.specs.declared.answer.UseAnswer.{UseAnswer}
use Rattle.idle_answers.specs.declared.printing.Told.{Told}
use Rattle.idle_answers.specs.UseAnswers.{IsUseAnswer, IsUseAnswerAt}
use Rattle.idle_answers.specs.UseTexts.{is_idle, is_undecided, statement_start, statements_line, use_lines, use_text}

-- the count alone
pub record IsStarted (count : ℕ) (told : Told) : Type 0 where
  pub text : string_bytes told.text ≡ statements_line count
  pub idle : told.idle ≡ false
  pub undecided : told.undecided ≡ false

-- the line of one more statement
pub record AddsUse (name : StatementName) (answer : UseAnswer) (before after : Told) : Type 0 where
  pub text : string_bytes after.text ≡ (string_bytes before.text ++ statement_start name) ++ use_text answer
  pub idle : after.idle ≡ (before.idle || is_idle answer)
  pub undecided : after.undecided ≡ (before.undecided || is_undecided answer)

-- the line of one more statement with an answer to it
pub record AddsNextUse (certified : Bool) (budgets : Budgets) (one : OneSet) (name : StatementName) (before after : Told) : Type 0 where
  pub answer : UseAnswer
  pub is : IsUseAnswerAt certified budgets one name answer
  pub adds : AddsUse name answer before after

-- the count of all, and the lines of these
pub record AreUsesWritten (certified : Bool) (budgets : Budgets) (one : OneSet) (named : List Named) (told : Told) : Type 0 where
  pub answers : List UseAnswer
  pub are : AllZip (IsUseAnswer certified budgets one) named answers
  pub text : string_bytes told.text ≡ statements_line (length (named_set one.set)) ++ use_lines named answers
  pub idle : told.idle ≡ list_any is_idle answers
  pub undecided : told.undecided ≡ list_any is_undecided answers

-- the status of what is said
abbrev pub told_status : Told → Status
told_status told = (if told.undecided then status.Undecided else (if told.idle then status.Fails else status.Holds))

-- When each statement of a set is decided.
use Rattle.std.specs.Prelude.{◌≡◌, ◌⊎◌, All}
use Rattle.command_words.specs.Asked.{UseQuestion}
use Rattle.policy_model.specs.declared.test.Slot.{Slot}
use Rattle.policy_model.specs.StatementNames.{Named, named_set}
use Rattle.policy_compile.specs.Limits.{IsWithinLimits}
use Rattle.policy_compile.specs.Sets.{set_plan}
use Rattle.run_inputs.specs.declared.printed.Printed.{Printed}
use Rattle.run_inputs.specs.declared.status.Status.TheVariants.{Holds, Fails}
use Rattle.run_inputs.specs.declared.one_set.OneSet.{OneSet}
use Rattle.run_inputs.specs.OneSets.{SomeOneSet, SetContents}
use Rattle.set_questions.specs.Settling.{BothRunsFail}
use Rattle.set_questions.specs.Uses.{OfChange}
use Rattle.tree_search.specs.declared.outcome.Budgets.{Budgets}
use Rattle.idle_answers.specs.UseAnswers.{IsShortAt}
use Rattle.idle_answers.specs.UsesPrinted.{IsIdlePrinted, use_budgets}

-- no budget is below the need of the statement's change query
pub record FitsBudgets (budgets : Budgets) (one : OneSet) (named : Named) : Type 0 where
  pub splits : ¬ OfChange one.schema one.set named (λ q. BothRunsFail one.schema q budgets.splits)
  pub states : (s : Slot) → ¬ OfChange one.schema one.set named (IsShortAt one.schema budgets.states s)

-- the set's query is within its limits, and so each change query, and none needs more than the budgets
pub record IsAnswerable (budgets : Budgets) (one : OneSet) : Type 0 where
  pub limits : IsWithinLimits (set_plan one.schema one.set)
  pub fits : All (FitsBudgets budgets one) (named_set one.set)

-- the files stand for such a set
abbrev pub IsIdleAccepted : UseQuestion → SetContents → Type 0
IsIdleAccepted u c = SomeOneSet c.set c.schema (IsAnswerable (use_budgets u))

-- and then each statement is decided
abbrev pub UsesDecide : Type 0
UsesDecide = (u : UseQuestion) (c : SetContents) (p : Printed) →
    IsIdleAccepted u c → IsIdlePrinted u c p → (p.status ≡ Holds) ⊎ (p.status ≡ Fails)

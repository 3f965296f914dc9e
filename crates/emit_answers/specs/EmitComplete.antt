-- When a policy is written from the findings of a set.
use Rattle.std.specs.Prelude.{◌≡◌, ◌≤◌, ℕ, List, length}
use Rattle.command_words.specs.Asked.{Summarising}
use Rattle.policy_json.specs.declared.statement.TheConstants.{MOST_STATEMENTS}
use Rattle.summary_search.specs.declared.outcome.Limits.{Limits}
use Rattle.run_inputs.specs.declared.printed.Printed.{Printed}
use Rattle.run_inputs.specs.declared.status.Status.TheVariants.{Holds}
use Rattle.run_inputs.specs.declared.one_set.OneSet.{OneSet}
use Rattle.run_inputs.specs.OneSets.{SomeOneSet, SetContents}
use Rattle.summary_answers.specs.declared.answer.Found.{Found}
use Rattle.summary_answers.specs.Complete.{IsSummarisable}
use Rattle.summary_answers.specs.Found.{IsFoundOf}
use Rattle.summary_answers.specs.Printed.{limits_in}
use Rattle.summary_answers.specs.Subjects.{subject_of_set}
use Rattle.emit_answers.specs.EmitPrinted.{IsEmitPrinted}

-- the set is summarised, and its findings are no more than statements may stand in a set
pub record IsEmittable (names : List (List ℕ)) (limits : Limits) (one : OneSet) : Type 0 where
  pub summarisable : IsSummarisable names limits (subject_of_set one)
  pub few : (found : Found) → IsFoundOf names limits (subject_of_set one) found → length found.summary ≤ MOST_STATEMENTS

-- the files stand for such a set
abbrev pub IsEmitAccepted : Summarising → SetContents → Type 0
IsEmitAccepted e c = SomeOneSet c.set c.schema (IsEmittable e.dimensions (limits_in e))

-- of such files the policy is printed
abbrev pub EmitsDecide : Type 0
EmitsDecide = (e : Summarising) (c : SetContents) (p : Printed) →
    IsEmitAccepted e c → IsEmitPrinted e c p → p.status ≡ Holds

-- When it is found who is allowed anything from outside a zone.
use Rattle.std.specs.Prelude.{◌≡◌, ◌⊎◌, ℕ, List}
use Rattle.command_words.specs.Asked.{Summarising}
use Rattle.summary_search.specs.declared.outcome.Limits.{Limits}
use Rattle.run_inputs.specs.declared.printed.Printed.{Printed}
use Rattle.run_inputs.specs.declared.status.Status.TheVariants.{Holds, Fails}
use Rattle.run_inputs.specs.declared.one_set.OneSet.{OneSet}
use Rattle.run_inputs.specs.OneSets.{SomeOneSet}
use Rattle.summary_answers.specs.Complete.{IsSummarisable}
use Rattle.summary_answers.specs.Printed.{limits_in}
use Rattle.reach_answers.specs.ReachPrinted.{IsReachPrinted, ReachContents, left_outside}
use Rattle.reach_answers.specs.ZoneRefusals.{OfZone}

-- the file stands for a zone, and what is outside of it is summarised
abbrev pub IsReachable : List (List ℕ) → Limits → List ℕ → OneSet → Type 0
IsReachable names limits bytes one =
    OfZone one.schema bytes (λ zone. IsSummarisable names limits (left_outside one zone))

-- the files stand for a set and such a zone
abbrev pub IsReachAccepted : Summarising → ReachContents → Type 0
IsReachAccepted s c = SomeOneSet c.set c.schema (IsReachable s.dimensions (limits_in s) c.zone)

-- of such files it is found
abbrev pub ReachesDecide : Type 0
ReachesDecide = (s : Summarising) (c : ReachContents) (p : Printed) →
    IsReachAccepted s c → IsReachPrinted s c p → (p.status ≡ Holds) ⊎ (p.status ≡ Fails)

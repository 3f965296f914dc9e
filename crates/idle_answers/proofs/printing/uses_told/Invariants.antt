use Rattle.std.proofs.Common.{take}
use Rattle.policy_model.specs.StatementNames.{named_set}
use Rattle.idle_answers.specs.Deciding.{AreChangesOf}
use Rattle.idle_answers.specs.Telling.{AreUsesWritten}
use Rattle.idle_answers.proofs.printing.uses_told.Given as goal

-- what is said of the statements so far; the changes stay those of the set
abbrev pub invariant-names : goal.invariant-names
invariant-names l = AreUsesWritten l.certified l.budgets l.one (take l.name-index (named_set l.one.set)) l.told × AreChangesOf l.one l.changes

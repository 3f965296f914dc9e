use Rattle.std.proofs.Common.{◌-◌, length}
use Rattle.slot_theory.specs.Question.{IsCoreOf}
use Rattle.slot_theory.proofs.search.search.Given as goal

abbrev pub invariant-grow : goal.invariant-grow
invariant-grow l = IsCoreOf l.question l.core

abbrev pub decreases-grow : goal.decreases-grow
decreases-grow l = length l.question.tests.now - length l.core

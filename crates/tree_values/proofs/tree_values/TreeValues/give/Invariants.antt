use Rattle.std.proofs.Common.{take}
use Rattle.tree_values.specs.Giving.{AreGiven, IsGivenSome}
use Rattle.tree_values.proofs.tree_values.TreeValues.give.Given as goal

abbrev pub invariant-answers : goal.invariant-answers
invariant-answers l = IsGivenSome l.initial.self l.self l.path × AreGiven l.self l.path (take l.test-index l.test-items)

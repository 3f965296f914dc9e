use Rattle.std.proofs.Common.{◌≡◌, take}
use Rattle.slot_theory.specs.Wants.{patterns_of}
use Rattle.slot_theory.proofs.wants.patterns_of.Given as goal

abbrev pub invariant-loop-n : goal.invariant-loop-n
invariant-loop-n l = l.patterns ≡ patterns_of l.question.tests.now (take l.n-index l.numbers)

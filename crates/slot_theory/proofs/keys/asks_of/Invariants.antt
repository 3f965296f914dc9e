use Rattle.std.proofs.Common.{◌≡◌, take}
use Rattle.slot_theory.specs.Cores.{asks_of}
use Rattle.slot_theory.proofs.keys.asks_of.Given as goal

abbrev pub invariant-loop-n : goal.invariant-loop-n
invariant-loop-n l = l.asks ≡ asks_of l.question.tests.now l.question.path.now (take l.n-index l.core)

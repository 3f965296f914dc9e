use Rattle.std.proofs.Common.{◌≡◌, take}
use Rattle.slot_theory.specs.Cores.{open_tests}
use Rattle.slot_theory.proofs.kinds.open_tests.Given as goal

abbrev pub invariant-loop-n : goal.invariant-loop-n
invariant-loop-n l = l.open ≡ open_tests l.tests l.kind (take l.n-index l.core)

use Rattle.std.proofs.Common.{All, take}
use Rattle.slot_theory.specs.Cores.{IsAnsweredOn}
use Rattle.slot_theory.proofs.cores.all_answered_on.Given as goal

abbrev pub invariant-loop-n : goal.invariant-loop-n
invariant-loop-n l = All (IsAnsweredOn l.tests l.path l.slot) (take l.n-index l.core)

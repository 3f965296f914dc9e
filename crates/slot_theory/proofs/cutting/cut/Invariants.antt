use Rattle.slot_theory.specs.Shrinking.{IsKept}
use Rattle.slot_theory.proofs.cutting.cut.Given as goal

abbrev pub invariant-loop-index : goal.invariant-loop-index
invariant-loop-index l = IsKept l.question l.kept

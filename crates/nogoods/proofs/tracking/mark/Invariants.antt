use Rattle.nogoods.specs.Joining.{AreMarked}
use Rattle.nogoods.proofs.tracking.mark.Given as goal

abbrev pub invariant-loop-i : goal.invariant-loop-i
invariant-loop-i l = AreMarked l.initial.hits.items l.hits.items l.from l.i l.number

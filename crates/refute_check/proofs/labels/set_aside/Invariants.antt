use Rattle.std.proofs.Common.{length}
use Rattle.refute_check.proofs.labels.set_aside.Given as goal

abbrev pub decreases-answers : goal.decreases-answers
decreases-answers l = length l.empty

use Rattle.std.proofs.Common.{length}
use Rattle.clause_proofs.proofs.checking.clear.Given as goal

abbrev pub decreases-answers : goal.decreases-answers
decreases-answers l = length l.path

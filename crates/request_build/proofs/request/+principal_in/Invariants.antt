use Rattle.std.proofs.Common.{length}
use Rattle.request_build.proofs.request.+principal_in.Given as goal

abbrev pub decreases-principal_in : goal.decreases-principal_in
decreases-principal_in l = length l.values.now

use Rattle.std.proofs.Common.{length}
use Rattle.request_build.proofs.request.+resource_in.Given as goal

abbrev pub decreases-resource_in : goal.decreases-resource_in
decreases-resource_in l = length l.values.now

use Rattle.std.proofs.Common.{length}
use Rattle.request_build.proofs.request.+action_in.Given as goal

abbrev pub decreases-action_in : goal.decreases-action_in
decreases-action_in l = length l.values.now

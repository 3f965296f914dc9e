use Rattle.trust_zones.proofs.Leaving.{zones-leave}
use Rattle.trust_zones.proofs.laws.zones_leave_the_outside.Goals as goal

pub returns : goal.returns
returns c = zones-leave

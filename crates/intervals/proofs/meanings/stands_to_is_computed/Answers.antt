use Rattle.intervals.proofs.Standing.{Decides-stands_to}
use Rattle.intervals.proofs.meanings.stands_to_is_computed.Goals as goal

pub returns : goal.returns
returns c = Decides-stands_to

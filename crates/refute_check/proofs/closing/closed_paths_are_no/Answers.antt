use Rattle.refute_check.proofs.Closed.{paths_are_no}
use Rattle.refute_check.proofs.closing.closed_paths_are_no.Goals as goal

pub returns : goal.returns
returns c = paths_are_no

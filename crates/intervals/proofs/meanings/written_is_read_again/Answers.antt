use Rattle.intervals.proofs.RoundTrip.{read_again}
use Rattle.intervals.proofs.meanings.written_is_read_again.Goals as goal

pub returns : goal.returns
returns c = read_again

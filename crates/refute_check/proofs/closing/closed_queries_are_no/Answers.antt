use Rattle.refute_check.proofs.Closed.{queries_are_no}
use Rattle.refute_check.proofs.closing.closed_queries_are_no.Goals as goal

pub returns : goal.returns
returns c = queries_are_no

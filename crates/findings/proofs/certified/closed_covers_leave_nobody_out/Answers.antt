use Rattle.findings.proofs.LeftOut.{nobody-left}
use Rattle.findings.proofs.certified.closed_covers_leave_nobody_out.Goals as goal

pub returns : goal.returns
returns c = nobody-left c.closed_queries_are_no.ensures

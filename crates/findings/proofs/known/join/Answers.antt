use Rattle.findings.proofs.Saying.{joins-none}
use Rattle.findings.proofs.known.join.Goals as goal

pub more-init : goal.more-init
more-init c = joins-none c.args.path.now c.args.more.now

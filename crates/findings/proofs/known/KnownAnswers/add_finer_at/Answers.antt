use Rattle.findings.proofs.Saying.{finer-none}
use Rattle.findings.proofs.known.KnownAnswers.add_finer_at.Goals as goal

pub below-init : goal.below-init
below-init c = finer-none c.args.self.now c.args.stratum.now c.args.finding.now c.args.i c.args.path.now

use Rattle.findings.proofs.Saying.{met-none}
use Rattle.findings.proofs.known.KnownAnswers.inside_answers.Goals as goal

pub dimensions-init : goal.dimensions-init
dimensions-init c = met-none c.args.self.now c.args.finding.now c.new-path.result c.new-path.ensures

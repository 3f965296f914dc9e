use Rattle.findings.proofs.Barring.{plainly-nobody}
use Rattle.findings.proofs.screening.has_plainly_nobody.Goals as goal

pub returns : goal.returns
returns c = λ is. plainly-nobody c.args.known.now c.args.finding.now c.in_ok-path.path c.in_ok-path.ensures (c.is_plainly_no.ensures is)

use Rattle.findings.proofs.Sets.{finding-among}
use Rattle.findings.proofs.reading.is_among.Goals as goal

pub returns : goal.returns
returns c = finding-among c.args.set.now.keys c.args.finding.now c.contains.result c.contains.ensures

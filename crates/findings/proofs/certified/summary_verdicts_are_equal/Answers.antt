use Rattle.findings.proofs.Judged.{verdicts-equal}
use Rattle.findings.proofs.certified.summary_verdicts_are_equal.Goals as goal

pub returns : goal.returns
returns c = verdicts-equal

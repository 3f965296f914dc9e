use Rattle.findings.proofs.Judged.{summaries-stand}
use Rattle.findings.proofs.certified.summaries_stand.Goals as goal

pub returns : goal.returns
returns c = summaries-stand

use Rattle.findings.proofs.Covering.{summaries-needed}
use Rattle.findings.proofs.meaning.summaries_are_needed.Goals as goal

pub returns : goal.returns
returns c = summaries-needed

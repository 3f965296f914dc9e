use Rattle.findings.proofs.Covering.{summaries-flat}
use Rattle.findings.proofs.meaning.summaries_are_flat.Goals as goal

pub returns : goal.returns
returns c = summaries-flat

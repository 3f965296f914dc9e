use Rattle.findings.proofs.Covering.{summaries-cover}
use Rattle.findings.proofs.meaning.summaries_cover.Goals as goal

pub returns : goal.returns
returns c = summaries-cover

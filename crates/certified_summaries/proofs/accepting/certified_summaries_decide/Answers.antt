use Rattle.certified_summaries.proofs.Laws.{certified_summaries_decide}
use Rattle.certified_summaries.proofs.accepting.certified_summaries_decide.Goals as goal

pub returns : goal.returns
returns c = certified_summaries_decide

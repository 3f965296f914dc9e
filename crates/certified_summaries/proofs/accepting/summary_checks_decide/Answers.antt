use Rattle.certified_summaries.proofs.Laws.{summary_checks_decide}
use Rattle.certified_summaries.proofs.accepting.summary_checks_decide.Goals as goal

pub returns : goal.returns
returns c = summary_checks_decide

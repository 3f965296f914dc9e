use Rattle.certified_summaries.proofs.Acceptance.{printed_summaries_are_accepted}
use Rattle.certified_summaries.proofs.accepting.printed_summaries_are_accepted.Goals as goal

pub returns : goal.returns
returns c = printed_summaries_are_accepted c.certified_subjects_are_accepted.ensures

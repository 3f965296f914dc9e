use Rattle.policy_emit.proofs.Allowing.{sets-allow-findings}
use Rattle.policy_emit.proofs.meaning.emitted_sets_allow_findings.Goals as goal

pub returns : goal.returns
returns c = sets-allow-findings c.tests_of_set_queries_suit.ensures

use Rattle.compare_answers.proofs.Comparing.{few_tests_fit}
use Rattle.compare_answers.proofs.decision.few_tests_are_decided.Goals as goal

pub returns : goal.returns
returns c = few_tests_fit c.args.schema.now c.args.query.now c.queries_have_runs.ensures.few

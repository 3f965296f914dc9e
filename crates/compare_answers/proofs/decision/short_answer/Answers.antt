use Rattle.compare_answers.proofs.Comparing.{comparison_if_staged, comparison_if_verdict, query_below, query_tests}
use Rattle.compare_answers.proofs.decision.short_answer.Goals as goal

pub decide_in_stages-requires-clause-suit : goal.decide_in_stages-requires-clause-suit
decide_in_stages-requires-clause-suit c = query_tests c.args.pair.now c.args.query.now c.requires.fitting c.requires.asked

pub decide_in_stages-requires-clause-below : goal.decide_in_stages-requires-clause-below
decide_in_stages-requires-clause-below c = query_below c.args.pair.now c.args.query.now c.requires.asked

pub returns-in-Some : goal.returns-in-Some
returns-in-Some c =
    comparison_if_verdict c.args.pair.now c.requires.valid c.args.query.now c.args.budgets c.requires.asked c.in-Some.answer (rw c.in-Some.is at c.in_ok-told.ensures)

pub returns : goal.returns
returns c =
    comparison_if_staged c.written_requests_are_read_again.ensures c.args.pair.now c.requires.valid c.args.query.now c.args.budgets c.in_ok-verdict.verdict
    c.requires.fitting c.requires.asked c.in_ok-verdict.ensures c.staged_answer.result c.staged_answer.ensures

use Rattle.idle_answers.proofs.Verdicts.{staged_if_tells}
use Rattle.idle_answers.proofs.deciding.staged_answer.Goals as goal

pub decide_in_stages-requires-clause-suit : goal.decide_in_stages-requires-clause-suit
decide_in_stages-requires-clause-suit c = (c.requires.decides.askable c.requires.fitting.sound).suit

pub decide_in_stages-requires-clause-count : goal.decide_in_stages-requires-clause-count
decide_in_stages-requires-clause-count c = (c.requires.decides.askable c.requires.fitting.sound).count

pub decide_in_stages-requires-clause-below : goal.decide_in_stages-requires-clause-below
decide_in_stages-requires-clause-below c = (c.requires.decides.askable c.requires.fitting.sound).below

pub returns : goal.returns
returns c =
    staged_if_tells c.written_requests_are_read_again.ensures c.args.budgets c.args.one.now c.args.name c.args.query.now c.requires.decides
    c.in_ok-verdict.verdict c.in_ok-verdict.ensures c.answer_by.result c.answer_by.ensures

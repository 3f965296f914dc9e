use Rattle.std.proofs.Common.{List, All, subst, sym}
use Rattle.policy_model.specs.declared.test.Test.{Test}
use Rattle.policy_model.specs.Soundness.{TestSuits}
use Rattle.compare_answers.proofs.Comparing.{query_below, query_tests, told_if_staged}
use Rattle.compare_answers.proofs.reduction.reduced_answer.Goals as goal

pub reduced-requires : goal.reduced-requires
reduced-requires c = query_below c.args.pair.now c.args.query.now c.requires.asked

pub decide_in_stages-requires-clause-suit : goal.decide_in_stages-requires-clause-suit
decide_in_stages-requires-clause-suit c =
    subst (λ (ts : List Test). All (TestSuits c.args.pair.now.schema) ts) (sym c.in_ok-less.ensures.tests)
    (query_tests c.args.pair.now c.args.query.now c.requires.fitting c.requires.asked)

pub returns : goal.returns
returns c =
    told_if_staged c.written_requests_are_read_again.ensures c.args.pair.now c.args.query.now c.in_ok-less.less c.args.budgets c.in_ok-verdict.verdict
    c.requires.fitting c.requires.asked c.in_ok-less.ensures.tests c.in_ok-less.ensures.same c.in_ok-verdict.ensures c.told_by.result c.told_by.ensures

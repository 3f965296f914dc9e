use Rattle.std.proofs.Common.{false}
use Rattle.nogoods.proofs.Answering.{answer_of-at-in, contained-all-in}
use Rattle.nogoods.proofs.watching.lacking.Goals as goal

pub returns-then-not-has_answer : goal.returns-then-not-has_answer
returns-then-not-has_answer c =
    record { own = answer_of-at-in c.as_slice-test-items.result.now c.args.answers.now c.answers.test-index (0, false) c.as_slice-test-items.ensures.value c.as_slice-test-items.ensures.distinct c.answers-test.true; lacks = c.if-not-has_answer.ensures }

pub returns : goal.returns
returns c =
    contained-all-in c.as_slice-test-items.result.now c.args.answers.now c.args.path.now c.answers.test-index c.as_slice-test-items.ensures.value c.answers-test.false c.answers.invariant

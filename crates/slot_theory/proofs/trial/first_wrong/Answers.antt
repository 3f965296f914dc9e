use Rattle.std.proofs.Common.{arith, false}
use Rattle.slot_theory.proofs.Wording.{range-at, wrong-by, right-more, slot-answered}
use Rattle.slot_theory.proofs.trial.first_wrong.Goals as goal

pub bounds-tests-n : goal.bounds-tests-n
bounds-tests-n c = range-at _ _ c.loop-i.i (0, false) c.requires.range c.requires.distinct c.loop-i-test.true

pub returns-then-is_wrong : goal.returns-then-is_wrong
returns-then-is_wrong c =
    wrong-by c.args.tests.now c.args.answers.now c.args.slot.now c.requires.range c.requires.distinct c.args.value.now c.loop-i.i (0, false) c.index-tests-n.result c.loop-i-test.true c.index-tests-n.is c.if-is_wrong.ensures

pub loop-i-preserved : goal.loop-i-preserved
loop-i-preserved c =
    right-more c.args.tests.now c.args.answers.now c.args.slot.now c.requires.range c.requires.distinct c.args.value.now c.loop-i.i (0, false) c.index-tests-n.result c.loop-i-test.true c.index-tests-n.is c.if-is_wrong.ensures c.loop-i.invariant

pub returns : goal.returns
returns c = slot-answered c.args.tests.now c.args.answers.now c.args.slot.now c.args.value.now (λ k d l. c.loop-i.invariant k d (omega (arith, l, c.loop-i-test.false)))

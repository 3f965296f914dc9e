use Rattle.std.proofs.Common.{arith, sym, ◌∙◌, ◌-◌, false}
use Rattle.slot_theory.proofs.Wording.{range-at, on-at, last-more, asked-none}
use Rattle.slot_theory.proofs.search.last_on.Goals as goal

pub bounds-tests-n : goal.bounds-tests-n
bounds-tests-n c = range-at _ _ (c.loop-i.i - 1) (0, false) c.requires.range c.requires.distinct (omega (arith, c.loop-i.auto.i, c.loop-i-test.true))

pub returns-then-is_on : goal.returns-then-is_on
returns-then-is_on c =
    on-at c.args.tests.now c.args.answers.now c.args.slot.now c.requires.range c.requires.distinct (c.loop-i.i - 1) (0, false) c.index-tests-n.result (omega (arith, c.loop-i.auto.i, c.loop-i-test.true)) c.index-tests-n.is
    (sym c.is_on.ensures ∙ c.if-is_on.true)

pub loop-i-preserved : goal.loop-i-preserved
loop-i-preserved c =
    last-more c.args.tests.now c.args.answers.now c.args.slot.now c.requires.range c.requires.distinct c.loop-i.i (0, false) c.index-tests-n.result c.loop-i-test.true c.loop-i.auto.i c.index-tests-n.is
    (sym c.is_on.ensures ∙ c.if-is_on.false) c.loop-i.invariant

pub returns : goal.returns
returns c =
    λ asked. asked-none c.args.tests.now c.args.answers.now c.args.slot.now c.requires.range c.requires.distinct c.loop-i.i asked c.loop-i-test.false c.loop-i.invariant

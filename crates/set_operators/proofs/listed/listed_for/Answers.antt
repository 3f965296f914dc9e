use Rattle.set_operators.proofs.Answering.{listed-found, listed-more, listed-none}
use Rattle.set_operators.proofs.listed.listed_for.Goals as goal

pub returns-then-answers_each : goal.returns-then-answers_each
returns-then-answers_each c =
    listed-found c.args.asks.now c.args.choice c.args.listed.now c.loop-value.value-index c.value-item.result c.in_ok-copy.field-0 c.answers_each.result c.requires c.loop-value-test.true c.value-item.is
    c.in_ok-copy.ensures c.answers_each.ensures c.if-answers_each.true

pub loop-value-preserved : goal.loop-value-preserved
loop-value-preserved c =
    listed-more c.args.asks.now c.args.choice c.args.listed.now c.loop-value.value-index c.value-item.result c.answers_each.result c.loop-value.invariant c.loop-value-test.true c.value-item.is
    c.answers_each.ensures c.if-answers_each.false

pub returns : goal.returns
returns c = listed-none c.args.asks.now c.args.choice c.args.listed.now c.loop-value.value-index c.requires c.loop-value.invariant c.loop-value-test.false

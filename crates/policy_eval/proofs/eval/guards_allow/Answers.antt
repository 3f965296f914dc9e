use Rattle.std.proofs.Common.{true, refl}
use Rattle.policy_model.specs.Sets.{SomeDecides}
use Rattle.policy_eval.proofs.Firsts.{guard-allows, guards-allow, guards-fail}
use Rattle.policy_eval.proofs.eval.guards_allow.Goals as goal

pub returns-then-not-some_decides : goal.returns-then-not-some_decides
returns-then-not-some_decides c =
    let silent : ¬ SomeDecides c.args.schema.now true c.args.request.now c.guard-item.result = λ yes. absurd (cc (c.some_decides.ensures.1 yes)) in
    (λ e. absurd (cc), λ all. absurd (guards-fail c.args.schema.now c.args.request.now c.loop-guard.guard-index c.args.guards.now c.guard-item.result c.loop-guard-test.true c.guard-item.is silent all))

pub loop-guard-preserved : goal.loop-guard-preserved
loop-guard-preserved c =
    guard-allows c.args.schema.now c.args.request.now c.loop-guard.guard-index c.args.guards.now c.guard-item.result c.loop-guard-test.true c.guard-item.is
    (c.some_decides.ensures.0 c.if-not-some_decides.false) c.loop-guard.invariant

pub returns : goal.returns
returns c = (λ _. guards-allow c.args.schema.now c.args.request.now c.loop-guard.guard-index c.args.guards.now c.loop-guard-test.false c.loop-guard.invariant, λ _. refl)

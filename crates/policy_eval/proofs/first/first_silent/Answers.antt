use Rattle.std.proofs.Common.{get_or, true, sym, subst}
use Rattle.policy_model.specs.Sets.{SomeDecides}
use Rattle.policy_eval.proofs.Firsts.{silent-found, guard-allows, guards-allow}
use Rattle.policy_eval.proofs.first.first_silent.Goals as goal

pub returns-then-not-some_decides : goal.returns-then-not-some_decides
returns-then-not-some_decides c =
    let not : ¬ SomeDecides c.args.schema.now true c.args.request.now (get_or c.args.guards.now c.loop-i.i c.index-guards-i.result) =
    λ yes. absurd (cc (c.some_decides.ensures.1 (subst (SomeDecides c.args.schema.now true c.args.request.now) (sym c.index-guards-i.is) yes))) in
    silent-found c.args.schema.now c.args.request.now c.loop-i.i c.args.guards.now c.index-guards-i.result c.loop-i-test.true c.loop-i.invariant not

pub loop-i-preserved : goal.loop-i-preserved
loop-i-preserved c =
    guard-allows c.args.schema.now c.args.request.now c.loop-i.i c.args.guards.now c.index-guards-i.result c.loop-i-test.true c.index-guards-i.is
    (c.some_decides.ensures.0 c.if-not-some_decides.false) c.loop-i.invariant

pub returns : goal.returns
returns c = guards-allow c.args.schema.now c.args.request.now c.loop-i.i c.args.guards.now c.loop-i-test.false c.loop-i.invariant

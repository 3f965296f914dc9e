use Rattle.std.proofs.Common.{arith}
use Rattle.strata.proofs.Making.{first-too-many, named-end, named-none, named-push}
use Rattle.strata.proofs.search.all_named.Goals as goal

pub loop-d-init : goal.loop-d-init
loop-d-init c = record { within = omega arith; named = named-none c.args.most c.args.tests.now c.args.slots.now c.new-all.result c.new-all.ensures }

pub returns-then-is_too_many : goal.returns-then-is_too_many
returns-then-is_too_many c =
    first-too-many c.args.most c.args.tests.now c.args.slots.now c.loop-d.d c.loop-d.all c.index-slots-d.result c.in_ok-names.names c.loop-d.invariant.named c.loop-d-test.true c.index-slots-d.is c.in_ok-names.ensures (c.is_too_many.ensures.0 c.if-is_too_many.true)

pub loop-d-preserved : goal.loop-d-preserved
loop-d-preserved c = record {
  within = omega (arith, c.loop-d-test.true);
  named = named-push c.args.most c.args.tests.now c.args.slots.now c.loop-d.d c.loop-d.all c.push.new.self c.index-slots-d.result c.in_ok-names.names c.loop-d.invariant.named c.loop-d-test.true c.index-slots-d.is c.in_ok-names.ensures (λ many. let on = c.is_too_many.ensures.1 many in absurd (cc)) c.in_ok-push.ensures.ok;
}

pub returns : goal.returns
returns c = named-end c.args.most c.args.tests.now c.args.slots.now c.loop-d.d c.loop-d.all c.loop-d.invariant.within c.loop-d-test.false c.loop-d.invariant.named

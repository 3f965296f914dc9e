use Rattle.std.proofs.Common.{◌∙◌, All, refl, sym, subst, arith}
use Rattle.policy_model.specs.declared.schema.Schema.{Schema}
use Rattle.strata.specs.Asking.{IsAskedIn}
use Rattle.strata.specs.Predicates.{SuitsSlot}
use Rattle.strata.proofs.Making.{made-end, made-fails, made-none, made-push, one-asked, one-few, one-fails-now, one-made-now, one-suits-now}
use Rattle.strata.proofs.search.all_strata.Goals as goal

pub loop-d-init : goal.loop-d-init
loop-d-init g c = record {
  within = omega arith;
  schema = refl;
  states = refl;
  made = made-none (g.I.Inclusion.schema c.args.by.now) c.args.slots.now c.args.all.now c.new-dimensions.result c.new-dimensions.ensures;
}

pub bounds-all-d : goal.bounds-all-d
bounds-all-d g c = omega (arith, c.requires.suit.count, c.loop-d-test.true)

pub stratum-requires-clause-slot : goal.stratum-requires-clause-slot
stratum-requires-clause-slot g c =
    subst (λ (x : Schema). IsAskedIn x c.index-slots-d.result) (sym c.loop-d.invariant.schema) (one-asked (g.I.Inclusion.schema c.args.by.now) c.args.slots.now c.loop-d.d c.index-slots-d.result c.requires.slots c.loop-d-test.true c.index-slots-d.is)

pub stratum-requires-clause-names : goal.stratum-requires-clause-names
stratum-requires-clause-names g c =
    subst (λ (x : Schema). All (SuitsSlot x c.index-slots-d.result) c.index-all-d.result) (sym c.loop-d.invariant.schema)
    (one-suits-now (g.I.Inclusion.schema c.args.by.now) c.args.slots.now c.args.all.now c.loop-d.d c.index-slots-d.result c.index-all-d.result c.requires.suit c.loop-d-test.true c.index-slots-d.is c.index-all-d.is)

pub stratum-requires-clause-few : goal.stratum-requires-clause-few
stratum-requires-clause-few g c = one-few (g.I.Inclusion.schema c.args.by.now) c.args.slots.now c.args.all.now c.loop-d.d c.index-all-d.result c.requires.suit c.loop-d-test.true c.index-all-d.is

pub returns-in_err-made-clause-makes : goal.returns-in_err-made-clause-makes
returns-in_err-made-clause-makes g c =
    made-fails (g.I.Inclusion.schema c.args.by.now) (g.I.Inclusion.states c.args.by.now) c.args.slots.now c.args.all.now c.loop-d.d c.index-slots-d.result c.index-all-d.result c.from_residual.result c.in_err-made.field-0.0 c.from_residual.ensures.1 c.loop-d-test.true
    (omega (arith, c.requires.suit.count, c.loop-d-test.true)) c.index-slots-d.is c.index-all-d.is
    (one-fails-now (g.I.Inclusion.schema c.loop-d.by) (g.I.Inclusion.schema c.args.by.now) (g.I.Inclusion.states c.loop-d.by) (g.I.Inclusion.states c.args.by.now) c.index-slots-d.result c.index-all-d.result c.in_err-made.field-0.0 c.loop-d.invariant.schema c.loop-d.invariant.states c.in_err-made.ensures.makes)

pub loop-d-preserved : goal.loop-d-preserved
loop-d-preserved g c = record {
  within = omega (arith, c.loop-d-test.true);
  schema = c.in_ok-made.ensures.schema ∙ c.loop-d.invariant.schema;
  states = c.in_ok-made.ensures.states ∙ c.loop-d.invariant.states;
  made = made-push (g.I.Inclusion.schema c.args.by.now) c.args.slots.now c.args.all.now c.loop-d.d c.loop-d.dimensions c.push.new.self c.index-slots-d.result c.index-all-d.result c.in_ok-made.made c.loop-d.invariant.made c.loop-d-test.true
      (omega (arith, c.requires.suit.count, c.loop-d-test.true)) c.index-slots-d.is c.index-all-d.is
      (one-made-now (g.I.Inclusion.schema c.loop-d.by) (g.I.Inclusion.schema c.args.by.now) c.index-slots-d.result c.index-all-d.result c.in_ok-made.made c.loop-d.invariant.schema c.in_ok-made.ensures.makes) c.in_ok-push.ensures.ok;
}

pub returns-clause-makes : goal.returns-clause-makes
returns-clause-makes g c = made-end (g.I.Inclusion.schema c.args.by.now) c.args.slots.now c.args.all.now c.loop-d.d c.loop-d.dimensions c.loop-d.invariant.within c.loop-d-test.false c.loop-d.invariant.made

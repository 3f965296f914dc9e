use Rattle.std.proofs.Common.{◌∙◌, All, refl, sym, subst, arith}
use Rattle.policy_model.specs.declared.schema.Schema.{Schema}
use Rattle.strata.specs.Asking.{IsAskedIn}
use Rattle.strata.specs.Below.{IsMetUnder}
use Rattle.strata.specs.Predicates.{SuitsSlot}
use Rattle.strata.proofs.Ordering.{kept-met}
use Rattle.strata.proofs.Standing.{each-fails, each-more, each-suits, end-keeps, so-far-none}
use Rattle.strata.proofs.kept.kept_of.Goals as goal

pub loop-one-init : goal.loop-one-init
loop-one-init g c = record {
  within = omega arith;
  schema = refl;
  states = refl;
  keeps = so-far-none (g.I.Inclusion.schema c.args.by.now) c.args.slot.now _ c.new.ensures c.new-2.ensures;
}

pub look_at-requires-clause-slot : goal.look_at-requires-clause-slot
look_at-requires-clause-slot g c = subst (λ (x : Schema). IsAskedIn x c.args.slot.now) (sym c.loop-one.invariant.schema) c.requires.slot

pub look_at-requires-clause-kept : goal.look_at-requires-clause-kept
look_at-requires-clause-kept g c =
    subst (λ (x : Schema). All (SuitsSlot x c.args.slot.now) c.loop-one.kept.predicates) (sym c.loop-one.invariant.schema)
    (each-suits (g.I.Inclusion.schema c.args.by.now) c.args.slot.now c.args.names.now c.loop-one.one-index c.loop-one.kept c.requires.names c.loop-one.invariant.keeps)

pub look_at-requires-clause-one : goal.look_at-requires-clause-one
look_at-requires-clause-one g c =
    subst (λ (x : Schema). SuitsSlot x c.args.slot.now c.one-item.result) (sym c.loop-one.invariant.schema)
    (subst (SuitsSlot (g.I.Inclusion.schema c.args.by.now) c.args.slot.now) (sym c.one-item.is) (c.requires.names c.loop-one.one-index c.one-item.result c.loop-one-test.true))

pub look_at-requires-clause-met : goal.look_at-requires-clause-met
look_at-requires-clause-met g c =
    let schema = g.I.Inclusion.schema c.args.by.now in
    subst (λ (x : Schema). All (IsMetUnder x c.args.slot.now) c.loop-one.kept.predicates) (sym c.loop-one.invariant.schema)
    (kept-met schema c.args.slot.now _ _ c.loop-one.kept.predicates c.loop-one.invariant.keeps.keeps)

pub returns-in_err-look_at-clause-keeps : goal.returns-in_err-look_at-clause-keeps
returns-in_err-look_at-clause-keeps g c =
    each-fails (g.I.Inclusion.schema c.loop-one.by) (g.I.Inclusion.schema c.args.by.now) (g.I.Inclusion.states c.loop-one.by) (g.I.Inclusion.states c.args.by.now) c.args.slot.now c.args.names.now c.loop-one.one-index c.one-item.result c.loop-one.kept c.look_at.new.kept
    c.from_residual.result c.in_err-look_at.field-0.0 c.from_residual.ensures.1 c.loop-one-test.true c.one-item.is c.loop-one.invariant.schema c.loop-one.invariant.states c.loop-one.invariant.keeps c.in_err-look_at.ensures.keeps

pub loop-one-preserved : goal.loop-one-preserved
loop-one-preserved g c = record {
  within = omega (arith, c.loop-one-test.true);
  schema = c.in_ok-look_at.ensures.schema ∙ c.loop-one.invariant.schema;
  states = c.in_ok-look_at.ensures.states ∙ c.loop-one.invariant.states;
  keeps = each-more (g.I.Inclusion.schema c.loop-one.by) (g.I.Inclusion.schema c.args.by.now) c.args.slot.now c.args.names.now c.loop-one.one-index c.one-item.result c.loop-one.kept c.look_at.new.kept c.loop-one-test.true c.one-item.is c.loop-one.invariant.schema c.loop-one.invariant.keeps c.in_ok-look_at.ensures.keeps;
}

pub returns-clause-keeps : goal.returns-clause-keeps
returns-clause-keeps g c = end-keeps (g.I.Inclusion.schema c.args.by.now) c.args.slot.now c.args.names.now c.loop-one.one-index c.loop-one.kept c.loop-one-test.false c.loop-one.invariant.keeps

use Rattle.std.proofs.Common.{[], ◌∷◌, ◌++◌, ◌∙◌, refl, sym, subst, arith}
use Rattle.std.proofs.lemmas.List.Elements.{Contains-append_left, Contains-push}
use Rattle.policy_model.specs.declared.schema.Schema.{Schema}
use Rattle.strata.specs.Asking.{IsAskedIn}
use Rattle.strata.specs.Below.{IsMetUnder}
use Rattle.strata.specs.Predicates.{SuitsSlot}
use Rattle.strata.proofs.Standing.{apart-push, in-more, pair-fails, row-end, row-fails, row-none, row-push, row-same, told-below, told-wide}
use Rattle.strata.proofs.kept.row_of.Goals as goal

pub loop-other-init : goal.loop-other-init
loop-other-init g c = record {
  within = omega arith;
  schema = refl;
  states = refl;
  row = row-none (g.I.Inclusion.schema c.args.by.now) c.args.slot.now c.args.kept.now c.args.one.now c.new-row.result c.new-row.ensures.below c.new-row.ensures.above;
  apart = λ j l. absurd (omega arith);
}

pub is_within-requires-clause-slot : goal.is_within-requires-clause-slot
is_within-requires-clause-slot g c = subst (λ (x : Schema). IsAskedIn x c.args.slot.now) (sym c.loop-other.invariant.schema) c.requires.slot

pub is_within-requires-clause-one : goal.is_within-requires-clause-one
is_within-requires-clause-one g c = subst (λ (x : Schema). SuitsSlot x c.args.slot.now c.args.one.now) (sym c.loop-other.invariant.schema) c.requires.one

pub is_within-requires-clause-other : goal.is_within-requires-clause-other
is_within-requires-clause-other g c =
    subst (λ (x : Schema). SuitsSlot x c.args.slot.now c.other-item.result) (sym c.loop-other.invariant.schema)
    (subst (SuitsSlot (g.I.Inclusion.schema c.args.by.now) c.args.slot.now) (sym c.other-item.is) (c.requires.kept c.loop-other.other-index c.other-item.result c.loop-other-test.true))

pub is_within-requires-clause-met : goal.is_within-requires-clause-met
is_within-requires-clause-met g c = subst (λ (x : Schema). IsMetUnder x c.args.slot.now c.args.one.now) (sym c.loop-other.invariant.schema) c.requires.met

pub returns-in_err-below-clause-row : goal.returns-in_err-below-clause-row
returns-in_err-below-clause-row g c =
    let schema = g.I.Inclusion.schema c.args.by.now in
    let states = g.I.Inclusion.states c.args.by.now in
    row-fails schema states c.args.slot.now c.args.kept.now c.args.one.now c.from_residual.result c.in_err-below.field-0.0 c.from_residual.ensures.1
    (pair-fails schema states c.args.slot.now c.args.one.now c.other-item.result (c.args.kept.now ++ c.args.one.now ∷ []) c.in_err-below.field-0.0 (in-more (c.args.kept.now ++ c.args.one.now ∷ []) c.args.one.now (Contains-push c.args.kept.now c.args.one.now))
    (in-more (c.args.kept.now ++ c.args.one.now ∷ []) c.other-item.result (Contains-append_left c.args.kept.now (c.args.one.now ∷ []) c.other-item.result (c.loop-other.other-index, c.loop-other-test.true, sym c.other-item.is)))
    (told-wide (g.I.Inclusion.schema c.loop-other.by) schema (g.I.Inclusion.states c.loop-other.by) states c.args.slot.now c.args.one.now c.other-item.result c.in_err-below.field-0.0 c.loop-other.invariant.schema c.loop-other.invariant.states c.in_err-below.ensures.decides))

pub is_within-requires-in-loop-other-clause-slot : goal.is_within-requires-in-loop-other-clause-slot
is_within-requires-in-loop-other-clause-slot g c = subst (λ (x : Schema). IsAskedIn x c.args.slot.now) (sym (c.in_ok-below.ensures.schema ∙ c.loop-other.invariant.schema)) c.requires.slot

pub is_within-requires-in-loop-other-clause-one : goal.is_within-requires-in-loop-other-clause-one
is_within-requires-in-loop-other-clause-one g c =
    subst (λ (x : Schema). SuitsSlot x c.args.slot.now c.other-item.result) (sym (c.in_ok-below.ensures.schema ∙ c.loop-other.invariant.schema))
    (subst (SuitsSlot (g.I.Inclusion.schema c.args.by.now) c.args.slot.now) (sym c.other-item.is) (c.requires.kept c.loop-other.other-index c.other-item.result c.loop-other-test.true))

pub is_within-requires-in-loop-other-clause-other : goal.is_within-requires-in-loop-other-clause-other
is_within-requires-in-loop-other-clause-other g c = subst (λ (x : Schema). SuitsSlot x c.args.slot.now c.args.one.now) (sym (c.in_ok-below.ensures.schema ∙ c.loop-other.invariant.schema)) c.requires.one

pub is_within-requires-in-loop-other-clause-met : goal.is_within-requires-in-loop-other-clause-met
is_within-requires-in-loop-other-clause-met g c =
    subst (λ (x : Schema). IsMetUnder x c.args.slot.now c.other-item.result) (sym (c.in_ok-below.ensures.schema ∙ c.loop-other.invariant.schema))
    (subst (IsMetUnder (g.I.Inclusion.schema c.args.by.now) c.args.slot.now) (sym c.other-item.is) (c.requires.kept_met c.loop-other.other-index c.other-item.result c.loop-other-test.true))

pub returns-in_err-above-clause-row : goal.returns-in_err-above-clause-row
returns-in_err-above-clause-row g c =
    let schema = g.I.Inclusion.schema c.args.by.now in
    let states = g.I.Inclusion.states c.args.by.now in
    row-fails schema states c.args.slot.now c.args.kept.now c.args.one.now c.from_residual-in_err-above.result c.in_err-above.field-0.0 c.from_residual-in_err-above.ensures.1
    (pair-fails schema states c.args.slot.now c.other-item.result c.args.one.now (c.args.kept.now ++ c.args.one.now ∷ []) c.in_err-above.field-0.0
    (in-more (c.args.kept.now ++ c.args.one.now ∷ []) c.other-item.result (Contains-append_left c.args.kept.now (c.args.one.now ∷ []) c.other-item.result (c.loop-other.other-index, c.loop-other-test.true, sym c.other-item.is)))
    (in-more (c.args.kept.now ++ c.args.one.now ∷ []) c.args.one.now (Contains-push c.args.kept.now c.args.one.now))
    (told-wide (g.I.Inclusion.schema c.is_within.new.by) schema (g.I.Inclusion.states c.is_within.new.by) states c.args.slot.now c.other-item.result c.args.one.now c.in_err-above.field-0.0 (c.in_ok-below.ensures.schema ∙ c.loop-other.invariant.schema) (c.in_ok-below.ensures.states ∙ c.loop-other.invariant.states) c.in_err-above.ensures.decides))

pub returns-then-is_same-clause-row : goal.returns-then-is_same-clause-row
returns-then-is_same-clause-row g c =
    let schema = g.I.Inclusion.schema c.args.by.now in
    row-same schema c.args.slot.now c.args.kept.now c.loop-other.other-index c.args.one.now c.other-item.result c.in_ok-below.below c.in_ok-above.above c.is_same.result c.loop-other-test.true c.other-item.is
    (told-below (g.I.Inclusion.schema c.loop-other.by) schema c.args.slot.now c.args.one.now c.other-item.result c.in_ok-below.below c.loop-other.invariant.schema c.in_ok-below.ensures.decides)
    (told-below (g.I.Inclusion.schema c.is_within.new.by) schema c.args.slot.now c.other-item.result c.args.one.now c.in_ok-above.above (c.in_ok-below.ensures.schema ∙ c.loop-other.invariant.schema) c.in_ok-above.ensures.decides)
    c.is_same.ensures c.if-is_same.true

pub loop-other-preserved : goal.loop-other-preserved
loop-other-preserved g c =
    let schema = g.I.Inclusion.schema c.args.by.now in
    let low = told-below (g.I.Inclusion.schema c.loop-other.by) schema c.args.slot.now c.args.one.now c.other-item.result c.in_ok-below.below c.loop-other.invariant.schema c.in_ok-below.ensures.decides in
    let high = told-below (g.I.Inclusion.schema c.is_within.new.by) schema c.args.slot.now c.other-item.result c.args.one.now c.in_ok-above.above (c.in_ok-below.ensures.schema ∙ c.loop-other.invariant.schema) c.in_ok-above.ensures.decides in
    record {
      within = omega (arith, c.loop-other-test.true);
      schema = c.in_ok-above.ensures.schema ∙ (c.in_ok-below.ensures.schema ∙ c.loop-other.invariant.schema);
      states = c.in_ok-above.ensures.states ∙ (c.in_ok-below.ensures.states ∙ c.loop-other.invariant.states);
      row = row-push schema c.args.slot.now c.args.kept.now c.loop-other.other-index c.args.one.now c.other-item.result c.loop-other.row c.in_ok-below.below c.in_ok-above.above c.push.new.self c.push-in-loop-other.new.self c.loop-other.invariant.row c.loop-other-test.true c.other-item.is low high c.in_ok-push.ensures.ok c.in_ok-push-2.ensures.ok;
      apart = apart-push schema c.args.slot.now c.args.kept.now c.loop-other.other-index c.args.one.now c.other-item.result c.in_ok-below.below c.in_ok-above.above c.is_same.result c.loop-other.invariant.apart c.loop-other-test.true c.other-item.is low high c.is_same.ensures c.if-is_same.false;
    }

pub returns-clause-row : goal.returns-clause-row
returns-clause-row g c =
    row-end (g.I.Inclusion.schema c.args.by.now) c.args.slot.now c.args.kept.now c.loop-other.other-index c.args.one.now c.loop-other.row (omega (arith, c.loop-other.invariant.within, c.loop-other-test.false)) c.loop-other.invariant.row c.loop-other.invariant.apart

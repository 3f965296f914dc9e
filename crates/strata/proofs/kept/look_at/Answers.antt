use Rattle.std.proofs.Common.{List, All, sym, subst}
use Rattle.policy_model.specs.declared.schema.Schema.{Schema}
use Rattle.strata.specs.declared.predicate.Predicate.{Predicate}
use Rattle.strata.specs.Asking.{IsAskedIn}
use Rattle.strata.specs.Below.{IsMetUnder}
use Rattle.strata.specs.Predicates.{SuitsSlot}
use Rattle.strata.proofs.Standing.{met-fails, rows-fail, so-far-found, so-far-missed, so-far-unmet}
use Rattle.strata.proofs.kept.look_at.Goals as goal

pub row_of-requires-clause-slot : goal.row_of-requires-clause-slot
row_of-requires-clause-slot g c = subst (λ (x : Schema). IsAskedIn x c.args.slot.now) (sym c.in_ok-met.ensures.schema) c.requires.slot

pub row_of-requires-clause-kept : goal.row_of-requires-clause-kept
row_of-requires-clause-kept g c =
    subst (λ (x : Schema). All (SuitsSlot x c.args.slot.now) c.as_slice.result.now) (sym c.in_ok-met.ensures.schema)
    (subst (λ (ps : List Predicate). All (SuitsSlot (g.I.Inclusion.schema c.args.by.now) c.args.slot.now) ps) (sym c.as_slice.ensures) c.requires.kept)

pub row_of-requires-clause-one : goal.row_of-requires-clause-one
row_of-requires-clause-one g c = subst (λ (x : Schema). SuitsSlot x c.args.slot.now c.args.one.now) (sym c.in_ok-met.ensures.schema) c.requires.one

pub row_of-requires-clause-kept_met : goal.row_of-requires-clause-kept_met
row_of-requires-clause-kept_met g c =
    subst (λ (x : Schema). All (IsMetUnder x c.args.slot.now) c.as_slice.result.now) (sym c.in_ok-met.ensures.schema)
    (subst (λ (ps : List Predicate). All (IsMetUnder (g.I.Inclusion.schema c.args.by.now) c.args.slot.now) ps) (sym c.as_slice.ensures) c.requires.met)

pub row_of-requires-clause-met : goal.row_of-requires-clause-met
row_of-requires-clause-met g c = subst (λ (x : Schema). IsMetUnder x c.args.slot.now c.args.one.now) (sym c.in_ok-met.ensures.schema) (c.in_ok-met.ensures.decides.0 (cc))

pub returns-in_err-met-clause-keeps : goal.returns-in_err-met-clause-keeps
returns-in_err-met-clause-keeps g c = λ names so_far.
    met-fails (g.I.Inclusion.schema c.args.by.now) (g.I.Inclusion.states c.args.by.now) c.args.slot.now names c.args.kept.now c.args.one.now c.from_residual.result c.in_err-met.field-0.0 c.from_residual.ensures.1 c.in_err-met.ensures.decides

pub returns-then-not-met-clause-keeps : goal.returns-then-not-met-clause-keeps
returns-then-not-met-clause-keeps g c = λ names so_far.
    so-far-unmet (g.I.Inclusion.schema c.args.by.now) c.args.slot.now names c.args.kept.now c.args.one.now c.in_ok-met.met so_far c.in_ok-met.ensures.decides c.if-not-met.true

pub returns-in_err-found-clause-keeps : goal.returns-in_err-found-clause-keeps
returns-in_err-found-clause-keeps g c = λ names so_far.
    rows-fail (g.I.Inclusion.schema c.is_met.new.by) (g.I.Inclusion.schema c.args.by.now) (g.I.Inclusion.states c.is_met.new.by) (g.I.Inclusion.states c.args.by.now) c.args.slot.now names c.args.kept.now c.args.kept.now c.as_slice.result.now c.args.one.now
    c.from_residual-in_err-found.result c.in_err-found.field-0.0 c.from_residual-in_err-found.ensures.1 c.in_ok-met.ensures.schema c.in_ok-met.ensures.states c.as_slice.ensures so_far c.in_err-found.ensures.row

pub returns-in-None-clause-keeps : goal.returns-in-None-clause-keeps
returns-in-None-clause-keeps g c = λ names so_far.
    so-far-missed (g.I.Inclusion.schema c.is_met.new.by) (g.I.Inclusion.schema c.args.by.now) (g.I.Inclusion.states c.is_met.new.by) c.args.slot.now names c.args.kept.now c.as_slice.result.now c.args.one.now c.in_ok-found.found
    c.in_ok-met.ensures.schema c.as_slice.ensures so_far c.in_ok-found.ensures.row c.in-None.is

pub returns-in_ok-add-in-Some-clause-keeps : goal.returns-in_ok-add-in-Some-clause-keeps
returns-in_ok-add-in-Some-clause-keeps g c = λ names so_far.
    so-far-found (g.I.Inclusion.schema c.is_met.new.by) (g.I.Inclusion.schema c.args.by.now) (g.I.Inclusion.states c.is_met.new.by) c.args.slot.now names c.args.kept.now c.add.new.kept c.as_slice.result.now c.args.one.now c.in_ok-copied-in-Some.copied c.in_ok-found.found c.in-Some.row c.in_ok-met.met
    c.in_ok-met.ensures.schema c.as_slice.ensures so_far c.in_ok-met.ensures.decides c.if-not-met.false c.in_ok-found.ensures.row c.in-Some.is c.in_ok-copied-in-Some.ensures c.in_ok-add-in-Some.ensures.predicates c.in_ok-add-in-Some.ensures.rows

use Rattle.std.proofs.Common.{◌<◌, ◌^◌, List, length, sym, subst, arith}
use Rattle.policy_model.specs.declared.test.Slot.{Slot}
use Rattle.strata.proofs.Making.{asked-now, no-outcome, outcome-now, suit-now}
use Rattle.strata.proofs.search.strata_of.Goals as goal

pub all_named-requires : goal.all_named-requires
all_named-requires g c = subst (λ (ss : List Slot). length ss < 2 ^ 32) (sym c.as_slice-2.ensures) c.requires.count

pub returns-in_err-all-clause-outcome : goal.returns-in_err-all-clause-outcome
returns-in_err-all-clause-outcome g c =
    no-outcome c.args.most c.args._schema.now (g.I.Inclusion.states c.args.by.now) c.args.query.now c.args.slots.now c.as_slice.result.now c.as_slice-2.result.now c.from_residual.result c.in_err-all.field-0.0 c.from_residual.ensures.1 c.as_slice.ensures c.as_slice-2.ensures c.in_err-all.ensures

pub all_strata-requires-clause-slots : goal.all_strata-requires-clause-slots
all_strata-requires-clause-slots g c =
    asked-now (g.I.Inclusion.schema c.args.by.now) c.args._schema.now c.args.slots.now c.as_slice-3.result.now c.requires.schema c.as_slice-3.ensures c.requires.sound c.requires.slots

pub all_strata-requires-clause-suit : goal.all_strata-requires-clause-suit
all_strata-requires-clause-suit g c =
    suit-now c.args.most (g.I.Inclusion.schema c.args.by.now) c.args._schema.now c.args.query.now.tests c.args.slots.now c.as_slice.result.now c.as_slice-2.result.now c.as_slice-3.result.now c.in_ok-all.all c.as_slice-4.result.now c.requires.schema c.as_slice.ensures c.as_slice-2.ensures c.as_slice-3.ensures c.as_slice-4.ensures (omega (arith)) c.requires.suit c.in_ok-all.ensures

pub returns-clause-outcome : goal.returns-clause-outcome
returns-clause-outcome g c =
    outcome-now c.args.most (g.I.Inclusion.schema c.args.by.now) c.args._schema.now (g.I.Inclusion.states c.args.by.now) c.args.query.now c.args.slots.now c.as_slice.result.now c.as_slice-2.result.now c.as_slice-3.result.now c.in_ok-all.all c.as_slice-4.result.now c.all_strata.result c.requires.schema c.as_slice.ensures c.as_slice-2.ensures c.as_slice-3.ensures c.as_slice-4.ensures c.in_ok-all.ensures c.all_strata.ensures.makes

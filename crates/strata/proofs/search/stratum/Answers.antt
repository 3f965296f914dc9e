use Rattle.std.proofs.Common.{List, All, sym, subst}
use Rattle.strata.specs.declared.predicate.Predicate.{Predicate}
use Rattle.strata.specs.Predicates.{SuitsSlot}
use Rattle.strata.proofs.Making.{kept-fits, stratum-fails, stratum-made}
use Rattle.strata.proofs.search.stratum.Goals as goal

pub kept_of-requires-clause-names : goal.kept_of-requires-clause-names
kept_of-requires-clause-names g c =
    subst (λ (ns : List Predicate). All (SuitsSlot (g.I.Inclusion.schema c.args.by.now) c.args.slot.now) ns) (sym c.as_slice.ensures) c.requires.names

pub returns-in_err-kept-clause-makes : goal.returns-in_err-kept-clause-makes
returns-in_err-kept-clause-makes g c =
    stratum-fails (g.I.Inclusion.schema c.args.by.now) (g.I.Inclusion.states c.args.by.now) c.args.slot.now c.args.names.now c.as_slice.result.now c.from_residual.result c.in_err-kept.field-0.0 c.from_residual.ensures.1 c.as_slice.ensures c.in_err-kept.ensures.keeps

pub all_covered-requires : goal.all_covered-requires
all_covered-requires g c =
    kept-fits (g.I.Inclusion.schema c.args.by.now) c.args.slot.now c.args.names.now c.as_slice.result.now c.in_ok-kept.kept c.as_slice-2.result.now c.as_slice-2.ensures c.as_slice.ensures c.requires.few c.in_ok-kept.ensures.keeps

pub returns-clause-makes : goal.returns-clause-makes
returns-clause-makes g c =
    stratum-made (g.I.Inclusion.schema c.args.by.now) c.args.slot.now c.in_ok-copied.copied c.args.names.now c.as_slice.result.now c.in_ok-kept.kept c.as_slice-2.result.now c.in_ok-below.below c.in_ok-copied.ensures c.as_slice-2.ensures c.as_slice.ensures c.in_ok-kept.ensures.keeps c.in_ok-below.ensures

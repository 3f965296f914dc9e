use Rattle.std.proofs.Common.{arith, refl}
use Rattle.strata.specs.Covers.{IsBelowAt}
use Rattle.findings.specs.Steps.{predicate_number_at}
use Rattle.findings.proofs.Compared.{below-told, finer-by, finer-read}
use Rattle.findings.proofs.Lying.{at-next}
use Rattle.findings.proofs.Stepping.{finding-long}
use Rattle.findings.proofs.order.is_finer.Goals as goal

pub predicate_number_at-upper-requires : goal.predicate_number_at-upper-requires
predicate_number_at-upper-requires c =
    let first = finding-long c.args.strata.now.dimensions c.args.one.now c.requires.one in
    let second = finding-long c.args.strata.now.dimensions c.args.other.now c.requires.other in
    omega (arith, first, second)

pub dimension_at-requires : goal.dimension_at-requires
dimension_at-requires c = omega (arith, finding-long c.args.strata.now.dimensions c.args.one.now c.requires.one)

pub returns-then-not-is_below : goal.returns-then-not-is_below
returns-then-not-is_below c = λ schema tests are. (
  λ e. absurd (cc),
  λ finer. (
      let here = finer-read schema c.args.strata.now.dimensions c.args.one.now c.args.other.now c.requires.one c.requires.other finer c.dimensions.i c.dimension_at.result.now c.dimension_at.ensures in
      let yes_ = (below-told schema tests c.args.strata.now.dimensions c.args.one.now c.args.other.now c.dimensions.i _ _ c.dimension_at.result.now c.is_below.result are c.requires.one c.requires.other c.dimension_at.ensures
      c.predicate_number_at-number.ensures c.predicate_number_at-upper.ensures c.is_below.ensures).1 here in
      absurd (cc)),
)

pub dimensions-preserved : goal.dimensions-preserved
dimensions-preserved c = λ schema tests are.
    at-next (λ d f j. IsBelowAt schema d.slot d.predicates (predicate_number_at f j) (predicate_number_at c.args.other.now j)) c.args.strata.now.dimensions c.args.one.now c.dimensions.i c.dimension_at.result.now c.dimension_at.ensures (c.dimensions.invariant schema tests are)
    ((below-told schema tests c.args.strata.now.dimensions c.args.one.now c.args.other.now c.dimensions.i _ _ c.dimension_at.result.now c.is_below.result are c.requires.one c.requires.other c.dimension_at.ensures
    c.predicate_number_at-number.ensures c.predicate_number_at-upper.ensures c.is_below.ensures).0 (cc))

pub returns : goal.returns
returns c = λ schema tests are. (
  λ e. finer-by schema c.args.strata.now.dimensions c.args.one.now c.args.other.now c.requires.one c.requires.other (λ j d less at. c.dimensions.invariant schema tests are j d (omega (arith, less)) at),
  λ h. refl,
)

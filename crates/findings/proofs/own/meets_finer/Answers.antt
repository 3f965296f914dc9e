use Rattle.std.proofs.Common.{ℕ, arith, refl, subst}
use Rattle.findings.specs.Queries.{numbers_below}
use Rattle.findings.specs.Steps.{MeetsOneOf}
use Rattle.findings.proofs.Lying.{MeetsBelowAt, at-next, finer-at, finer-none}
use Rattle.findings.proofs.Stepping.{finding-long, number-within, numbered-at}
use Rattle.findings.proofs.own.meets_finer.Goals as goal

pub dimension_at-requires : goal.dimension_at-requires
dimension_at-requires c = omega (arith, finding-long c.args.strata.now.dimensions c.args.finding.now c.requires.finding)

pub meets_below-requires-clause-within : goal.meets_below-requires-clause-within
meets_below-requires-clause-within c =
    let own = number-within c.args.strata.now.dimensions c.args.finding.now c.requires.finding c.dimensions.i _ c.dimension_at.ensures in
    let numbered = numbered-at c.args.strata.now.dimensions c.dimensions.i _ c.requires.numbers c.dimension_at.ensures in
    omega (arith, own, numbered.count, c.predicate_number_at-number.ensures)

pub meets_below-requires-clause-numbers : goal.meets_below-requires-clause-numbers
meets_below-requires-clause-numbers c = numbered-at c.args.strata.now.dimensions c.dimensions.i _ c.requires.numbers c.dimension_at.ensures

pub returns-then-meets_below : goal.returns-then-meets_below
returns-then-meets_below c = (
  λ e. (
      let meets = subst (λ (n : ℕ). MeetsOneOf c.args.request.now c.dimension_at.result.now (numbers_below c.dimension_at.result.now n)) c.predicate_number_at-number.ensures (c.meets_below.ensures.0 (cc)) in
      finer-at c.args.request.now c.args.strata.now.dimensions c.args.finding.now c.requires.finding c.dimensions.i c.dimension_at.result.now c.dimension_at.ensures meets),
  λ h. refl,
)

pub dimensions-preserved : goal.dimensions-preserved
dimensions-preserved c =
    let number = c.predicate_number_at-number.ensures in
    at-next (λ d f j. ¬ MeetsBelowAt c.args.request.now d f j) c.args.strata.now.dimensions c.args.finding.now c.dimensions.i c.dimension_at.result.now c.dimension_at.ensures c.dimensions.invariant
    (subst (λ (n : ℕ). ¬ MeetsOneOf c.args.request.now c.dimension_at.result.now (numbers_below c.dimension_at.result.now n)) number (λ meets. let yes_ = c.meets_below.ensures.1 meets in absurd (cc)))

pub returns : goal.returns
returns c = (
  λ e. absurd (cc),
  λ meets. absurd (finer-none c.args.request.now c.args.strata.now.dimensions c.args.finding.now c.requires.finding (λ j d less at. c.dimensions.invariant j d (omega (arith, less)) at) meets),
)

use Rattle.std.proofs.Common.{ℕ, arith, refl, subst, sym}
use Rattle.strata.specs.Covers.{predicate_at}
use Rattle.strata.specs.Predicates.{MeetsPredicate}
use Rattle.findings.proofs.Lying.{MeetsAt, at-next, lies-all, lies-at}
use Rattle.findings.proofs.Stepping.{finding-long, number-within}
use Rattle.findings.proofs.own.lies_in.Goals as goal

pub dimension_at-requires : goal.dimension_at-requires
dimension_at-requires c = omega (arith, finding-long c.args.strata.now.dimensions c.args.finding.now c.requires)

pub meets_number-requires : goal.meets_number-requires
meets_number-requires c =
    let own = number-within c.args.strata.now.dimensions c.args.finding.now c.requires c.dimensions.i _ c.dimension_at.ensures in
    omega (arith, own, c.predicate_number_at-number.ensures)

pub returns-then-not-meets_number : goal.returns-then-not-meets_number
returns-then-not-meets_number c = (
  λ e. absurd (cc),
  λ lies. (
      let here = lies-at c.args.request.now c.args.strata.now.dimensions c.args.finding.now c.requires lies c.dimensions.i c.dimension_at.result.now c.dimension_at.ensures in
      let meets = subst (λ (n : ℕ). MeetsPredicate c.dimension_at.result.now.slot (predicate_at c.dimension_at.result.now.predicates n) c.args.request.now) (sym c.predicate_number_at-number.ensures) here in
      let yes_ = c.meets_number.ensures.1 meets in
      absurd (cc)),
)

pub dimensions-preserved : goal.dimensions-preserved
dimensions-preserved c =
    let number = c.predicate_number_at-number.ensures in
    at-next (MeetsAt c.args.request.now) c.args.strata.now.dimensions c.args.finding.now c.dimensions.i c.dimension_at.result.now c.dimension_at.ensures c.dimensions.invariant
    (subst (λ (n : ℕ). MeetsPredicate c.dimension_at.result.now.slot (predicate_at c.dimension_at.result.now.predicates n) c.args.request.now) number (c.meets_number.ensures.0 (cc)))

pub returns : goal.returns
returns c = (
  λ e. lies-all c.args.request.now c.args.strata.now.dimensions c.args.finding.now c.requires (λ j d less at. c.dimensions.invariant j d (omega (arith, less)) at),
  λ h. refl,
)

use Rattle.std.proofs.Common.{◌≡◌, ◌<◌, ℕ, arith, inl, inr, length, get_or, refl, subst, sym}
use Rattle.std.proofs.lemmas.Bool.{cases_lt}
use Rattle.strata.specs.Covers.{predicate_at}
use Rattle.strata.specs.Predicates.{MeetsPredicate}
use Rattle.findings.specs.Queries.{numbers_below}
use Rattle.findings.proofs.Lying.{none-below, one-below}
use Rattle.findings.proofs.Stepping.{lower-within, numbers-read}
use Rattle.findings.proofs.own.meets_below.Goals as goal

pub meets_number-requires : goal.meets_number-requires
meets_number-requires c =
    let within : c.below.lower-index < length c.as_slice-lower-items.result.now = omega arith in
    let items = numbers-read c.args.stratum.now c.args.number c.as_slice.result.now c.index-as_slice-number.result c.as_slice-lower-items.result.now c.as_slice.ensures c.index-as_slice-number.is c.requires.within c.as_slice-lower-items.ensures in
    lower-within c.args.stratum.now c.args.number c.as_slice-lower-items.result.now c.below.lower-index c.requires.numbers items within

pub returns-then-meets_number : goal.returns-then-meets_number
returns-then-meets_number c =
    let within : c.below.lower-index < length c.as_slice-lower-items.result.now = omega arith in
    let items = numbers-read c.args.stratum.now c.args.number c.as_slice.result.now c.index-as_slice-number.result c.as_slice-lower-items.result.now c.as_slice.ensures c.index-as_slice-number.is c.requires.within c.as_slice-lower-items.ensures in (
      λ e. one-below c.args.request.now c.args.stratum.now (numbers_below c.args.stratum.now c.args.number) c.as_slice-lower-items.result.now c.below.lower-index items within (c.meets_number.ensures.0 (cc)),
      λ h. refl,
    )

pub below-preserved : goal.below-preserved
below-preserved c = λ k less. elim (cases_lt k c.below.lower-index) [
  | inl lower ↦ c.below.invariant k lower
  | inr upper ↦ (
      let same : k ≡ c.below.lower-index = omega (arith, less, upper) in
      subst (λ (n : ℕ). ¬ MeetsPredicate c.args.stratum.now.slot (predicate_at c.args.stratum.now.predicates (get_or c.as_slice-lower-items.result.now n 0)) c.args.request.now) (sym same)
      (λ meets. let yes_ = c.meets_number.ensures.1 meets in absurd (cc)))
]

pub returns : goal.returns
returns c =
    let items = numbers-read c.args.stratum.now c.args.number c.as_slice.result.now c.index-as_slice-number.result c.as_slice-lower-items.result.now c.as_slice.ensures c.index-as_slice-number.is c.requires.within c.as_slice-lower-items.ensures in (
      λ e. absurd (cc),
      λ meets. absurd (none-below c.args.request.now c.args.stratum.now (numbers_below c.args.stratum.now c.args.number) c.as_slice-lower-items.result.now items (λ k less. c.below.invariant k (omega (arith, less))) meets),
    )

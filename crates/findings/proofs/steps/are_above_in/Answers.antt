use Rattle.std.proofs.Common.{◌≡◌, ◌<◌, ℕ, Some, arith, inl, inr, length, refl, subst, sym}
use Rattle.std.specs.Prelude.{slice_get}
use Rattle.std.proofs.lemmas.Bool.{cases_lt}
use Rattle.strata.specs.declared.stratum.Stratum.{Stratum}
use Rattle.findings.specs.Steps.{AreAboveAt}
use Rattle.findings.proofs.Stepping.{above-at, all-above, finding-long, numbered-at}
use Rattle.findings.proofs.steps.are_above_in.Goals as goal

pub dimension_at-requires : goal.dimension_at-requires
dimension_at-requires c = omega (arith, finding-long c.args.strata.now.dimensions c.args.finding.now c.requires.finding)

pub are_above_at-requires-clause-few : goal.are_above_at-requires-clause-few
are_above_at-requires-clause-few c = (numbered-at c.args.strata.now.dimensions c.dimensions.i _ c.requires.numbered c.dimension_at.ensures).few

pub returns-then-not-branch : goal.returns-then-not-branch
returns-then-not-branch c =
    let within : c.dimensions.i < length c.args.finding.now = omega arith in (
      λ e. absurd (cc),
      λ all. let yes = c.in_ok-are_above_at.ensures.1 (above-at c.args.strata.now.dimensions c.args.set.now.keys c.args.finding.now all c.dimensions.i _ within c.dimension_at.ensures) in absurd (cc),
    )

pub dimensions-preserved : goal.dimensions-preserved
dimensions-preserved c = λ j d less at. elim (cases_lt j c.dimensions.i) [
  | inl lower ↦ c.dimensions.invariant j d lower at
  | inr upper ↦ (
      let same : j ≡ c.dimensions.i = omega (arith, less, upper) in
      let here : slice_get c.args.strata.now.dimensions c.dimensions.i ≡ Some d = subst (λ (k : ℕ). slice_get c.args.strata.now.dimensions k ≡ Some d) same at in
      let own : c.dimension_at.result.now ≡ d = (let read = c.dimension_at.ensures in cc) in
      subst (λ (k : ℕ). AreAboveAt d c.args.set.now.keys c.args.finding.now k) (sym same) (subst (λ (x : Stratum). AreAboveAt x c.args.set.now.keys c.args.finding.now c.dimensions.i) own (c.in_ok-are_above_at.ensures.0 (cc))))
]

pub returns : goal.returns
returns c = (
  λ e. all-above c.args.strata.now.dimensions c.args.set.now.keys c.args.finding.now (λ j d less at. c.dimensions.invariant j d (omega (arith, less)) at),
  λ h. refl,
)

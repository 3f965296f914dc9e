use Rattle.std.proofs.Common.{◌≡◌, ℕ, arith, inl, inr, subst, sym}
use Rattle.std.proofs.lemmas.Bool.{cases_lt}
use Rattle.findings.specs.Steps.{IsAboveBy}
use Rattle.findings.proofs.steps.are_above_at.Goals as goal

pub returns-then-not-branch : goal.returns-then-not-branch
returns-then-not-branch c = (
  λ e. absurd (cc),
  λ all. let yes = c.in_ok-is_above_in.ensures.1 (all c.above.upper) in absurd (cc),
)

pub above-preserved : goal.above-preserved
above-preserved c = λ m less. elim (cases_lt m c.above.upper) [
  | inl lower ↦ c.above.invariant m lower
  | inr upper ↦ (
      let same : m ≡ c.above.upper = omega (arith, less, upper) in
      subst (λ (k : ℕ). IsAboveBy c.args.stratum.now c.args.set.now.keys c.args.finding.now c.args.i k) (sym same) (c.in_ok-is_above_in.ensures.0 (cc)))
]

use Rattle.std.proofs.Common.{◌≡◌, ◌<◌, ℕ, Some}
use Rattle.std.specs.Prelude.{slice_get}
use Rattle.strata.specs.declared.stratum.Stratum.{Stratum}
use Rattle.strata.specs.Covers.{IsBelowAt}
use Rattle.findings.specs.Judging.{EachOrder}
use Rattle.findings.specs.Steps.{predicate_number_at}
use Rattle.findings.proofs.order.is_finer.Given as goal

-- in the dimensions so far
abbrev pub invariant-dimensions : goal.invariant-dimensions
invariant-dimensions l = EachOrder l.strata (λ schema. (j : ℕ) (d : Stratum) → j < l.i → slice_get l.strata.dimensions j ≡ Some d →
    IsBelowAt schema d.slot d.predicates (predicate_number_at l.one j) (predicate_number_at l.other j))

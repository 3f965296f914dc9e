use Rattle.std.proofs.Common.{◌≡◌, ◌<◌, ℕ, Some}
use Rattle.std.specs.Prelude.{slice_get}
use Rattle.strata.specs.declared.stratum.Stratum.{Stratum}
use Rattle.findings.proofs.Lying.{MeetsAt}
use Rattle.findings.proofs.own.lies_in.Given as goal

-- in the dimensions so far
abbrev pub invariant-dimensions : goal.invariant-dimensions
invariant-dimensions l = (j : ℕ) (d : Stratum) → j < l.i → slice_get l.strata.dimensions j ≡ Some d → MeetsAt l.request d l.finding j

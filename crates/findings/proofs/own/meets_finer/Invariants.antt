use Rattle.std.proofs.Common.{◌≡◌, ◌<◌, ℕ, Some}
use Rattle.std.specs.Prelude.{slice_get}
use Rattle.strata.specs.declared.stratum.Stratum.{Stratum}
use Rattle.findings.proofs.Lying.{MeetsBelowAt}
use Rattle.findings.proofs.own.meets_finer.Given as goal

-- in none of the dimensions so far
abbrev pub invariant-dimensions : goal.invariant-dimensions
invariant-dimensions l = (j : ℕ) (d : Stratum) → j < l.i → slice_get l.strata.dimensions j ≡ Some d → ¬ MeetsBelowAt l.request d l.finding j

use Rattle.std.proofs.Common.{◌≡◌, take}
use Rattle.findings.specs.Walks.{first_finding}
use Rattle.findings.proofs.walk.first_finding.Given as goal

abbrev pub invariant-dimensions : goal.invariant-dimensions
invariant-dimensions l = l.finding ≡ first_finding (take l.counter l.strata.dimensions)

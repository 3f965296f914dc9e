use Rattle.findings.specs.Steps.{AddUpTo}
use Rattle.findings.proofs.steps.add_under.Given as goal

-- those of the dimensions so far
abbrev pub invariant-dimensions : goal.invariant-dimensions
invariant-dimensions l = AddUpTo l.strata.dimensions l.finding l.i l.initial.coming.items l.coming.items

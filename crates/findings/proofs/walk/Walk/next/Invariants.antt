use Rattle.findings.specs.Walked.{IsPassing}
use Rattle.findings.proofs.walk.Walk.next.Given as goal

-- those that were taken were passed
abbrev pub invariant-coming : goal.invariant-coming
invariant-coming l = IsPassing l.strata.dimensions l.initial.self l.self l.counter

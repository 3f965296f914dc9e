use Rattle.std.proofs.Common.{ℕ, ◌<◌}
use Rattle.findings.specs.Steps.{IsAboveBy}
use Rattle.findings.proofs.steps.are_above_at.Given as goal

-- by the numbers so far
abbrev pub invariant-above : goal.invariant-above
invariant-above l = (m : ℕ) → m < l.upper → IsAboveBy l.stratum l.set.keys l.finding l.i m

use Rattle.std.proofs.Common.{take}
use Rattle.findings.specs.Nobody.{IsPartedBy}
use Rattle.findings.proofs.inhabited.parted.Given as goal

-- the findings so far
abbrev pub invariant-findings : goal.invariant-findings
invariant-findings l = IsPartedBy (take l.i l.findings) (l.open, l.marked)

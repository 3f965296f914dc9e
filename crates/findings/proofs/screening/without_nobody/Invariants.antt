use Rattle.std.proofs.Common.{take}
use Rattle.findings.specs.Screening.{DropsPlainlyEmpty}
use Rattle.findings.proofs.screening.without_nobody.Given as goal

abbrev pub invariant-under : goal.invariant-under
invariant-under l = DropsPlainlyEmpty l.known (take l.i l.under) l.kept

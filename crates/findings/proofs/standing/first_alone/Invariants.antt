use Rattle.findings.specs.Judging.{StandAlone}
use Rattle.findings.proofs.standing.first_alone.Given as goal

abbrev pub invariant-pairs : goal.invariant-pairs
invariant-pairs l = StandAlone l.validity l.base l.strata l.pairs l.i

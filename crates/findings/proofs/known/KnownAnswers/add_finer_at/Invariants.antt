use Rattle.findings.specs.KnownAnswers.{AddsFinerAt}
use Rattle.findings.proofs.known.KnownAnswers.add_finer_at.Given as goal

abbrev pub invariant-below : goal.invariant-below
invariant-below l = AddsFinerAt l.self l.stratum l.finding l.i l.initial.path l.path

use Rattle.findings.specs.KnownAnswers.{AreInsideAnswers}
use Rattle.findings.proofs.known.KnownAnswers.inside_answers.Given as goal

abbrev pub invariant-dimensions : goal.invariant-dimensions
invariant-dimensions l = AreInsideAnswers l.self l.finding l.path

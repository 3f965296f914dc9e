use Rattle.findings.specs.KnownAnswers.{AreOwnAnswers}
use Rattle.findings.proofs.known.KnownAnswers.own_answers.Given as goal

abbrev pub invariant-dimensions : goal.invariant-dimensions
invariant-dimensions l = AreOwnAnswers l.self l.strata.dimensions l.finding l.path

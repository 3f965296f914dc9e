use Rattle.findings.specs.KnownAnswers.{JoinsAnswers}
use Rattle.findings.proofs.known.join.Given as goal

abbrev pub invariant-more : goal.invariant-more
invariant-more l = JoinsAnswers l.initial.path l.more l.path

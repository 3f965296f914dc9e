use Rattle.findings.specs.KnownAnswers.{AnswersTests}
use Rattle.findings.proofs.known.path_of.Given as goal

abbrev pub invariant-tests : goal.invariant-tests
invariant-tests l = AnswersTests l.schema l.one l.met l.tests l.path

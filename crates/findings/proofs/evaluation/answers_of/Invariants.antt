use Rattle.std.proofs.Common.{take}
use Rattle.findings.specs.Judging.{AreAnswersOf}
use Rattle.findings.proofs.evaluation.answers_of.Given as goal

abbrev pub invariant-tests : goal.invariant-tests
invariant-tests l = AreAnswersOf l.request (take l.test-index l.tests) l.answers.items

use Rattle.std.proofs.Common.{arith}
use Rattle.findings.proofs.Evaluated.{answers-next, answers-none}
use Rattle.findings.proofs.evaluation.answers_of.Goals as goal

pub tests-init : goal.tests-init
tests-init c = answers-none c.args.request.now c.args.tests.now c.new-answers.result.items c.new-answers.ensures.items

pub tests-preserved : goal.tests-preserved
tests-preserved c =
    answers-next c.args.request.now c.args.tests.now c.tests.test-index c.test-item.result c.tests.answers.items c.push.new.self.items c.test_holds.result (omega arith) c.test-item.is c.tests.invariant c.test_holds.ensures c.in_ok-push.ensures.items

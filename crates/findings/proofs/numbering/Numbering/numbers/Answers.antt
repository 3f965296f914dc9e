use Rattle.std.proofs.Common.{arith}
use Rattle.findings.proofs.Plans.{numbers-next, numbers-none}
use Rattle.findings.proofs.numbering.Numbering.numbers.Goals as goal

pub tests-init : goal.tests-init
tests-init c = numbers-none c.args.self.now.tests.keys c.new-numbers.result.items c.new-numbers.ensures.items

pub tests-preserved : goal.tests-preserved
tests-preserved c =
    numbers-next c.args.self.now.tests.keys c.tests.self.tests.keys c.number.new.self.tests.keys c.as_slice-test-items.result.now c.tests.test-index c.test-item.result c.in_ok-copy.field-0 c.tests.numbers.items c.push.new.self.items c.in_ok-number.field-0
    (omega arith) c.test-item.is c.in_ok-copy.ensures c.tests.invariant c.in_ok-number.ensures c.in_ok-push.ensures.items

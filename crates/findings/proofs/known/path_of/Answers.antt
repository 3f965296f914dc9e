use Rattle.std.proofs.Common.{arith}
use Rattle.findings.proofs.Saying.{tests-next, tests-none}
use Rattle.findings.proofs.known.path_of.Goals as goal

pub tests-init : goal.tests-init
tests-init c = tests-none c.args.schema.now c.args.met c.args.one.now c.args.tests.now c.new-path.result c.new-path.ensures

pub tests-preserved : goal.tests-preserved
tests-preserved c =
    let few = c.requires.few in
    tests-next c.args.schema.now c.args.met c.args.one.now c.args.tests.now c.tests.path c.add_answer.new.path c.tests.i _ c.index-tests-i.result c.in-Some.answer c.tests.invariant (omega arith) c.index-tests-i.is (omega (arith, few))
    c.in-Some.ensures c.in_ok-add_answer.ensures

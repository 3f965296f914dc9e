use Rattle.policy_compile.proofs.Standing.{formula-more}
use Rattle.policy_compile.proofs.nodes.formulas_of.Goals as goal

pub loop-node-preserved : goal.loop-node-preserved
loop-node-preserved c =
    formula-more c.args.nodes.now c.loop-node.formulas.items c.push.new.self.items c.as_slice.result.now c.loop-node.node-index c.node-item.result c.in_ok-new.field-0 c.in_ok-formula.formula c.requires c.loop-node.invariant.0 c.loop-node.invariant.1
    c.loop-node-test.true c.node-item.is c.as_slice.ensures.value c.in_ok-formula.ensures c.in_ok-new.ensures.ok c.in_ok-push.ensures.items

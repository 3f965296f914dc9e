use Rattle.std.proofs.Common.{◌∙◌, arith}
use Rattle.formula_nodes.specs.Standing.{node_trees}
use Rattle.set_questions.proofs.Excluded.{denied-next, longer-count}
use Rattle.set_questions.proofs.excluding.denied_tests.Goals as goal

pub nodes-preserved : goal.nodes-preserved
nodes-preserved c = (
  c.denies.ensures.same ∙ c.nodes.invariant.0,
  longer-count c.nodes.denied.items c.push.new.self.items c.denies.result c.nodes.node c.in_ok-push.ensures.items c.nodes.invariant.1,
  denied-next c.args.reducer.now c.nodes.reducer (node_trees c.args.nodes.now) c.args.one c.nodes.denied.items c.push.new.self.items c.nodes.node c.denies.result c.nodes.invariant.0 c.nodes.invariant.1
      c.nodes.invariant.2 c.denies.ensures.denied c.in_ok-push.ensures.items,
  omega (arith, c.nodes-test.true, c.min-end.ensures, c.len.ensures),
)

pub returns-clause-count : goal.returns-clause-count
returns-clause-count c = omega (arith, c.nodes.invariant.1, c.nodes.invariant.3)

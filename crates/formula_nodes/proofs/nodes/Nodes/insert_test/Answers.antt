use Rattle.formula_nodes.specs.declared.nodes.Node.TheVariants as node
use Rattle.formula_nodes.proofs.Adding.{adds-test, grows-with, test-claim}
use Rattle.formula_nodes.proofs.nodes.Nodes.insert_test.Goals as goal

pub returns-clause-grows : goal.returns-clause-grows
returns-clause-grows c = grows-with c.args.self.now c.insert.new.self (node.Test c.args.test) c.insert.ensures.with

pub returns-clause-tests : goal.returns-clause-tests
returns-clause-tests c = adds-test c.args.self.now c.insert.new.self c.args.test c.insert.ensures.with

pub returns-clause-same : goal.returns-clause-same
returns-clause-same c = test-claim c.insert.result c.insert.new.self c.args.test c.insert.ensures.at

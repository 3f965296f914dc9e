use Rattle.formula_nodes.proofs.Adding.{made-claim}
use Rattle.formula_nodes.proofs.nodes.Nodes.insert.Goals as goal

pub returns-clause-at : goal.returns-clause-at
returns-clause-at c = made-claim c.claim_at.result c.put.new.self c.args.node c.in_ok-index.index c.in_ok-index.ensures.at c.in_ok-index.ensures.earlier c.claim_at.ensures

use Rattle.formula_nodes.specs.Standing.{node_trees}
use Rattle.query_reduction.proofs.Related.{always-implied}
use Rattle.query_reduction.proofs.implies.Implications.is_always.Goals as goal

pub returns : goal.returns
returns c = λ e.
    let known = c.is_certain.ensures e in
    always-implied c.args.self.now.relations (node_trees c.args.nodes.now) c.args.claim c.in-Some.test known.0 c.in-Some.ensures known.1

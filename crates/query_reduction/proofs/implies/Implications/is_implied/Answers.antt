use Rattle.std.proofs.Common.{◌∙◌}
use Rattle.formula_nodes.specs.Standing.{node_trees}
use Rattle.query_reduction.proofs.Related.{always-true}
use Rattle.query_reduction.proofs.implies.Implications.is_implied.Goals as goal

pub returns-then-is_always-clause-implied : goal.returns-then-is_always-clause-implied
returns-then-is_always-clause-implied c = λ e true_of for others.
    always-true c.args.self.now.relations (node_trees c.args.nodes.now) c.args.claim (c.is_always.ensures c.if-is_always.true) true_of for

pub returns-clause-same : goal.returns-clause-same
returns-clause-same c = c.one_implies.ensures.same ∙ c.proposed.ensures

pub returns-clause-implied : goal.returns-clause-implied
returns-clause-implied c = λ e. rw c.proposed.ensures at (c.one_implies.ensures.implied e)

use Rattle.formula_nodes.specs.Standing.{node_trees}
use Rattle.query_reduction.proofs.Related.{answer-implies}
use Rattle.query_reduction.proofs.implies.Implications.test_implies.Goals as goal

pub returns-clause-implied : goal.returns-clause-implied
returns-clause-implied c = λ e.
    answer-implies c.args.self.now.relations (node_trees c.args.nodes.now) c.args.one c.args.other c.in-Some.first c.in-Some-test_in.second c.in-Some.ensures c.in-Some-test_in.ensures
    (c.answer_implies.ensures.implied e)

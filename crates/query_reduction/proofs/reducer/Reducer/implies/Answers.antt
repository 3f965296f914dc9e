use Rattle.std.proofs.Common.{◌∙◌}
use Rattle.formula_nodes.specs.Standing.{node_trees}
use Rattle.query_reduction.proofs.Replacing.{implied-here}
use Rattle.query_reduction.proofs.reducer.Reducer.implies.Goals as goal

pub returns-clause-implied : goal.returns-clause-implied
returns-clause-implied c = λ e.
    implied-here c.args.self.now _ (node_trees c.args.nodes.now) c.args.one c.args.other (c.go_on.ensures ∙ c.self.view_is) (c.implies.ensures.implied e)

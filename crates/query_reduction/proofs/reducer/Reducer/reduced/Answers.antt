use Rattle.std.proofs.Common.{◌∙◌}
use Rattle.formula_nodes.specs.Standing.{node_trees}
use Rattle.query_reduction.proofs.Replacing.{if-claims-agree}
use Rattle.query_reduction.proofs.reducer.Reducer.reduced.Goals as goal

pub returns-clause-agree : goal.returns-clause-agree
returns-clause-agree c =
    if-claims-agree c.args.self.now _ (node_trees c.reduced_claim.new.nodes) c.args.whole c.reduced_claim.result (c.go_on.ensures ∙ c.self.view_is) c.reduced_claim.ensures.value

use Rattle.std.proofs.Common.{ap, sym, ◌∙◌}
use Rattle.formula_tree.specs.Trees.{tree_of}
use Rattle.formula_nodes.specs.Standing.{node_trees}
use Rattle.set_questions.proofs.Making.{changes-made}
use Rattle.set_questions.proofs.changes.Changes.new.Goals as goal

pub invariant_of-result : goal.invariant_of-result
invariant_of-result c =
    changes-made c.args.schema.now c.args.set.now c.args.query.now c.in_ok-reducer.reducer c.in-Some.asked.now (node_trees c.new-nodes.result) (node_trees c.numbered.new.nodes) (node_trees c.numbered_inside.new.nodes)
    c.in_ok-names.names c.in_ok-claims.claims c.in_ok-wholes.wholes c.requires.query (ap tree_of (sym c.deref.ensures) ∙ c.in-Some.ensures) c.in_ok-reducer.ensures.schema c.in_ok-reducer.ensures.tests c.in_ok-names.ensures c.new-nodes.ensures
    c.in_ok-wholes.ensures.tests c.in_ok-claims.ensures.tests c.in_ok-claims.ensures.grows c.in_ok-wholes.ensures.claims c.in_ok-claims.ensures.claims

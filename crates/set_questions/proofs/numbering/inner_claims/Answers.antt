use Rattle.formula_tree.specs.Trees.{tree_of, trees_of}
use Rattle.formula_nodes.specs.Standing.{node_trees}
use Rattle.set_questions.proofs.Numbered.{adds-inner}
use Rattle.set_questions.proofs.numbering.inner_claims.Goals as goal

pub returns-in-Some-clause-tests : goal.returns-in-Some-clause-tests
returns-in-Some-clause-tests c =
    adds-inner (tree_of c.args.formula.now) (trees_of c.in-Some.branches.now) (node_trees c.args.nodes.now) (node_trees c.numbered.new.nodes) c.in-Some.ensures c.numbered.ensures.tests

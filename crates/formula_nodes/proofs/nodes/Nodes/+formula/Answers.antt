use Rattle.std.proofs.Common.{rules}
use Rattle.formula_tree.specs.Trees.{tree_of, trees_of}
use Rattle.formula_nodes.specs.Standing.{node_trees}
use Rattle.formula_nodes.proofs.Valuing.{all-tree, next-trees, one-tree}
use Rattle.formula_tree.proofs.FormulaWalks.{tree-All, tree-OneOf}
use Rattle.formula_nodes.proofs.nodes.Nodes.+formula.Goals as goal

pub branches-claims-preserved : goal.branches-claims-preserved
branches-claims-preserved t c =
    next-trees c.args.every (node_trees c.args.self.now) c.args.claims.now c.claims.claim-index _ c.turned.result (trees_of c.claims.branches) (trees_of c.push.new.self) (tree_of c.in_ok-formula.field-0.value) c.claims-test.true (search rules)
    c.claims.invariant c.turned.ensures c.in_ok-formula.ensures c.in_ok-push.ensures.ok

pub formula_of-returns-in_ok-branches-in-All : goal.formula_of-returns-in_ok-branches-in-All
formula_of-returns-in_ok-branches-in-All t c =
    all-tree (node_trees c.args.self.now) c.args.claim c.in-All.inner (trees_of c.in_ok-branches-in-All.branches) _ c.in-All.ensures c.in_ok-branches-in-All.ensures (tree-All c.in_ok-branches-in-All.branches)

pub formula_of-returns-in_ok-branches-in-OneOf : goal.formula_of-returns-in_ok-branches-in-OneOf
formula_of-returns-in_ok-branches-in-OneOf t c =
    one-tree (node_trees c.args.self.now) c.args.claim c.in-OneOf.inner (trees_of c.in_ok-branches-in-OneOf.branches) _ c.in-OneOf.ensures c.in_ok-branches-in-OneOf.ensures (tree-OneOf c.in_ok-branches-in-OneOf.branches)

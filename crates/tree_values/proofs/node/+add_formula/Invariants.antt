use Rattle.std.proofs.Common.{take}
use Rattle.formula_tree.specs.Trees.{children_of, tree_of, trees_of}
use Rattle.tree_values.specs.Nodes.{AreAt, IsPrefix}
use Rattle.formula_tree.proofs.FormulaWalks.{size, size_in}
use Rattle.tree_values.proofs.node.+add_formula.Given as goal

abbrev pub decreases-add_formula : goal.decreases-add_formula
decreases-add_formula l = size (tree_of l.formula.now)

abbrev pub decreases-add_branches : goal.decreases-add_branches
decreases-add_branches l = size_in (children_of l.branches.now)

abbrev pub invariant-add_branches-branches : goal.invariant-add_branches-branches
invariant-add_branches-branches l = AreAt l.nodes (take l.i (trees_of l.branches)) l.children.items × IsPrefix l.initial.nodes l.nodes

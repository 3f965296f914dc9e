use Rattle.std.proofs.Common.{take}
use Rattle.formula_tree.specs.Trees.{all, children_of, tree_of, trees_of}
use Rattle.formula_nodes.specs.Claims.{AddsTestsOf, Grows}
use Rattle.formula_nodes.specs.Standing.{node_trees}
use Rattle.formula_nodes.specs.Steps.{AreClaimsFor}
use Rattle.formula_tree.proofs.FormulaWalks.{size, size_in}
use Rattle.formula_nodes.proofs.nodes.Nodes.+number.Given as goal

abbrev pub decreases-number : goal.decreases-number
decreases-number l = size (tree_of l.formula.now)

abbrev pub decreases-number_each : goal.decreases-number_each
decreases-number_each l = size_in (children_of l.branches.now)

-- the claims so far
abbrev pub invariant-number_each-branches : goal.invariant-number_each-branches
invariant-number_each-branches l =
    Grows (node_trees l.initial.self) (node_trees l.self) × AddsTestsOf (all (children_of l.branches)) (node_trees l.initial.self) (node_trees l.self) × AreClaimsFor l.every (take l.i (trees_of l.branches)) (node_trees l.self) l.claims

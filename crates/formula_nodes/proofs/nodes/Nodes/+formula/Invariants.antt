use Rattle.std.proofs.Common.{take, ◌+◌, ◌*◌}
use Rattle.formula_tree.specs.Trees.{trees_of}
use Rattle.formula_nodes.specs.Standing.{node_trees}
use Rattle.formula_nodes.specs.Steps.{AreTreesFor}
use Rattle.formula_nodes.proofs.nodes.Nodes.+formula.Given as goal

abbrev pub decreases-formula : goal.decreases-formula
decreases-formula l = 3 * l.claim.node + 2

abbrev pub decreases-formula_of : goal.decreases-formula_of
decreases-formula_of l = 3 * l.claim.node + 1

abbrev pub decreases-branches : goal.decreases-branches
decreases-branches l = 3 * l.end

-- the formulas so far
abbrev pub invariant-branches-claims : goal.invariant-branches-claims
invariant-branches-claims l = AreTreesFor l.every (take l.claim-index l.claims) (node_trees l.self) (trees_of l.branches)

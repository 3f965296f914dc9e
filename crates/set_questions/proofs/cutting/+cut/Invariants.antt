use Rattle.std.proofs.Common.{take, ◌+◌, ◌*◌}
use Rattle.formula_nodes.specs.Claims.{AddsNoTest, Grows}
use Rattle.formula_nodes.specs.Standing.{node_trees}
use Rattle.set_questions.specs.Cutting.{AreLeftOf}
use Rattle.set_questions.proofs.cutting.+cut.Given as goal

abbrev pub decreases-cut : goal.decreases-cut
decreases-cut l = 2 * l.claim.node + 1

abbrev pub decreases-left_of : goal.decreases-left_of
decreases-left_of l = 2 * l.end

-- what is left of the claims so far
abbrev pub invariant-left_of-claims : goal.invariant-left_of-claims
invariant-left_of-claims l =
    Grows (node_trees l.initial.nodes) (node_trees l.nodes) × AddsNoTest (node_trees l.initial.nodes) (node_trees l.nodes)
    × AreLeftOf (node_trees l.nodes) l.denied (take l.claim-index l.claims) l.left

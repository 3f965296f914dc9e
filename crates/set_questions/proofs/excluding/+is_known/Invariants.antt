use Rattle.std.proofs.Common.{take, ◌+◌, ◌*◌}
use Rattle.formula_nodes.specs.Standing.{node_trees}
use Rattle.set_questions.specs.Excluding.{AreTrueThere}
use Rattle.set_questions.proofs.excluding.+is_known.Given as goal

abbrev pub decreases-is_known : goal.decreases-is_known
decreases-is_known l = 2 * l.claim.node + 1

abbrev pub decreases-are_known : goal.decreases-are_known
decreases-are_known l = 2 * l.end

abbrev pub decreases-some_fails : goal.decreases-some_fails
decreases-some_fails l = 2 * l.end

-- the claims so far
abbrev pub invariant-are_known-claims : goal.invariant-are_known-claims
invariant-are_known-claims l = AreTrueThere (node_trees l.nodes) l.denied (take l.claim-index l.claims)

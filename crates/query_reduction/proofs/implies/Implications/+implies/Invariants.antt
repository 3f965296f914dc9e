use Rattle.std.proofs.Common.{◌≡◌, ◌+◌, ◌*◌, All, take}
use Rattle.formula_nodes.specs.Standing.{node_trees}
use Rattle.query_reduction.specs.Claims.{ClaimImplies}
use Rattle.query_reduction.proofs.implies.Implications.+implies.Given as goal

abbrev pub decreases-implies : goal.decreases-implies
decreases-implies l = 4 * l.depth

abbrev pub decreases-part_implies : goal.decreases-part_implies
decreases-part_implies l = 4 * l.depth + 3

abbrev pub decreases-implies_each : goal.decreases-implies_each
decreases-implies_each l = 4 * l.depth + 1

abbrev pub decreases-some_implies : goal.decreases-some_implies
decreases-some_implies l = 4 * l.depth + 2

abbrev pub invariant-implies_each-others : goal.invariant-implies_each-others
invariant-implies_each-others l =
    (l.self.relations ≡ l.initial.self.relations) × All (ClaimImplies l.self.relations (node_trees l.nodes) l.one) (take l.other-index l.others)

abbrev pub invariant-some_implies-parts : goal.invariant-some_implies-parts
invariant-some_implies-parts l = l.self.relations ≡ l.initial.self.relations

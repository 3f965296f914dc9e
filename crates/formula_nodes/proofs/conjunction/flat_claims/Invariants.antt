use Rattle.std.proofs.Common.{take}
use Rattle.formula_nodes.specs.Standing.{node_trees}
use Rattle.formula_nodes.specs.Steps.{AreEquivalentClaims}
use Rattle.formula_nodes.proofs.conjunction.flat_claims.Given as goal

-- the claims so far, taken apart
abbrev pub invariant-loop-claim : goal.invariant-loop-claim
invariant-loop-claim l = AreEquivalentClaims (node_trees l.nodes) (take l.claim-index l.claims) l.flat.items

use Rattle.std.proofs.Common.{◌≡◌, take}
use Rattle.formula_nodes.specs.Claims.{AreClaimsOf}
use Rattle.formula_nodes.specs.Standing.{node_trees}
use Rattle.query_reduction.specs.Claims.{SayAsMuch}
use Rattle.query_reduction.proofs.implies.Implications.unimplied.Given as goal

abbrev pub invariant-claims : goal.invariant-claims
invariant-claims l =
    (l.self.relations ≡ l.initial.self.relations) × AreClaimsOf (node_trees l.nodes) l.left ×
    SayAsMuch l.self.relations (node_trees l.nodes) l.parts l.index (take l.claim-index l.claims) l.left

use Rattle.std.proofs.Common.{◌≡◌}
use Rattle.formula_nodes.specs.Claims.{AddsNoTest, Grows, IsClaimOf}
use Rattle.formula_nodes.specs.Standing.{node_trees}
use Rattle.query_reduction.specs.Claims.{IsSameClaim}
use Rattle.query_reduction.proofs.implies.Implications.settled.Given as goal

abbrev pub invariant-rounds : goal.invariant-rounds
invariant-rounds l =
    (l.self.relations ≡ l.initial.self.relations) × Grows (node_trees l.initial.nodes) (node_trees l.nodes) ×
    AddsNoTest (node_trees l.initial.nodes) (node_trees l.nodes) × IsClaimOf (node_trees l.nodes) l.last ×
    IsSameClaim l.self.relations (node_trees l.nodes) l.fn.whole l.last

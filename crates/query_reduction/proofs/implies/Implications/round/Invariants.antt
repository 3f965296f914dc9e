use Rattle.std.proofs.Common.{◌≡◌, length}
use Rattle.formula_nodes.specs.Claims.{AddsNoTest, AreClaimsOf, Grows}
use Rattle.formula_nodes.specs.Standing.{node_trees}
use Rattle.query_reduction.specs.Claims.{IsConjunctionFor}
use Rattle.query_reduction.proofs.implies.Implications.round.Given as goal

abbrev pub invariant-each : goal.invariant-each
invariant-each l =
    (l.self.relations ≡ l.initial.self.relations) × Grows (node_trees l.initial.nodes) (node_trees l.nodes) ×
    AddsNoTest (node_trees l.initial.nodes) (node_trees l.nodes) × (length l.parts.items ≡ length l.initial.parts.items) ×
    AreClaimsOf (node_trees l.nodes) l.parts.items × IsConjunctionFor l.self.relations (node_trees l.nodes) l.fn.whole l.parts.items

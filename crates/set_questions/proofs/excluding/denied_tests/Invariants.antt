use Rattle.std.proofs.Common.{◌≡◌, ◌≤◌, length}
use Rattle.formula_nodes.specs.Standing.{node_trees}
use Rattle.set_questions.specs.Excluding.{AreDenied}
use Rattle.set_questions.proofs.excluding.denied_tests.Given as goal

-- what is known of the nodes so far
abbrev pub invariant-nodes : goal.invariant-nodes
invariant-nodes l =
    (l.reducer ≡ l.initial.reducer) × (length l.denied.items ≡ l.node) × AreDenied l.initial.reducer (node_trees l.nodes) l.one l.denied.items
    × (l.node ≤ length (node_trees l.nodes))

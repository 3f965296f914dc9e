use Rattle.std.proofs.Common.{◌≡◌, ◌-◌, ◌++◌, ℕ, List, drop, length}
use Rattle.tree_values.specs.Models.{answer_at}
use Rattle.tree_values.specs.Nodes.{AreSettledBut}
use Rattle.tree_values.proofs.settling.+settle.Given as goal

abbrev pub decreases-settle : goal.decreases-settle
decreases-settle l = length l.graph.now.nodes.items - l.index

abbrev pub invariant-parents : goal.invariant-parents
invariant-parents l =
    (length l.marks.items ≡ length l.graph.nodes.items) × ((pending : List ℕ) → AreSettledBut l.graph.nodes.items (answer_at l.answers) l.initial.marks.items (l.parent-items ++ pending) →
    AreSettledBut l.graph.nodes.items (answer_at l.answers) l.marks.items (drop l.parent-index l.parent-items ++ pending))

use Rattle.std.proofs.Common.{◌≡◌, drop, length}
use Rattle.tree_values.specs.Models.{answer_at}
use Rattle.tree_values.specs.Nodes.{AreSettledBut}
use Rattle.tree_values.proofs.settling.settle_all.Given as goal

abbrev pub invariant-indices : goal.invariant-indices
invariant-indices l =
    (length l.marks.items ≡ length l.graph.nodes.items) × (AreSettledBut l.graph.nodes.items (answer_at l.answers) l.initial.marks.items l.indices →
    AreSettledBut l.graph.nodes.items (answer_at l.answers) l.marks.items (drop l.index-index l.indices))

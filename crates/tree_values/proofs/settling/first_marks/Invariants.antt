use Rattle.std.proofs.Common.{◌≡◌, length}
use Rattle.tree_values.specs.Models.{answer_at}
use Rattle.tree_values.proofs.Agreeing.{AreSettledBefore}
use Rattle.tree_values.proofs.settling.first_marks.Given as goal

abbrev pub invariant-nodes : goal.invariant-nodes
invariant-nodes l = (length l.marks.items ≡ l.i) × AreSettledBefore l.nodes (answer_at l.answers) l.marks.items l.i

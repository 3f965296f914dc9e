use Rattle.std.proofs.Common.{◌≡◌, ℕ, [], length}
use Rattle.tree_values.specs.Nodes.{list_at}
use Rattle.tree_values.proofs.graph.empty_lists.Given as goal

abbrev pub invariant-lists : goal.invariant-lists
invariant-lists l = (length l.lists.items ≡ l.counter) × ((i : ℕ) → list_at l.lists.items i ≡ [])

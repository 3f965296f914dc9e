use Rattle.std.proofs.Common.{length}
use Rattle.tree_values.proofs.node.+join.Given as goal

abbrev pub decreases-join : goal.decreases-join
decreases-join l = length l.children.now

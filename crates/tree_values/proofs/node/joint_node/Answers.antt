-- The search finds this unasked; asked for here, a wrong body is refused without a longer search.
use Rattle.std.proofs.Common.{rules}
use Rattle.tree_values.proofs.node.joint_node.Goals as goal

pub returns-then-every : goal.returns-then-every
returns-then-every c = search rules

use Rattle.std.proofs.Common.{◌-◌}
use Rattle.proof_text.specs.declared.limits.TheConstants.{MOST_NESTING}
use Rattle.proof_text.proofs.nodes.+read_node.Given as goal

abbrev pub decreases-read_node : goal.decreases-read_node
decreases-read_node l = MOST_NESTING - l.depth

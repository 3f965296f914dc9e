use Rattle.std.proofs.Common.{◌≡◌, length, map}
use Rattle.policy_compile.specs.Nodes.{StandFor, tree_at}
use Rattle.policy_compile.proofs.nodes.formulas_of.Given as goal

-- the formulas so far stand for the nodes so far
abbrev pub invariant-loop-node : goal.invariant-loop-node
invariant-loop-node l = (length l.formulas.items ≡ l.node-index) × StandFor l.nodes (map tree_at l.formulas.items)

use Rattle.tree_values.specs.Nodes.{HasEntered}
use Rattle.tree_values.proofs.graph.enter_all.Given as goal

abbrev pub invariant-nodes : goal.invariant-nodes
invariant-nodes l = HasEntered l.nodes l.parents.items l.leaves.items l.i

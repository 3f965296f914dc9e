use Rattle.std.proofs.Common.{List, sym, subst}
use Rattle.formula_tree.specs.Trees.{tree_of}
use Rattle.tree_values.specs.Nodes.{IsAt}
use Rattle.tree_values.specs.declared.node.Node.{Node}
use Rattle.tree_values.proofs.graph.Graph.of.Goals as goal

pub returns-clause-root : goal.returns-clause-root
returns-clause-root c = subst (λ (ns : List Node). IsAt ns (tree_of c.args.formula.now) c.in_ok-root.root) (sym c.in_ok-nodes.ensures.nodes) c.in_ok-root.ensures.at

use Rattle.std.proofs.Common.{List, length, sym, ap, ◌∙◌}
use Rattle.formula_nodes.proofs.Standing.{length-trees}
use Rattle.formula_nodes.specs.declared.nodes.Node.{Node}
use Rattle.formula_nodes.proofs.nodes.Nodes.len.Goals as goal

pub returns : goal.returns
returns c = c.len.ensures.len ∙ ap (λ (ns : List Node). length ns) c.self.view_is ∙ sym (length-trees c.args.self.now)

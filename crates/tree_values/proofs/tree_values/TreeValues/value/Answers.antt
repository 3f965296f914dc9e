use Rattle.std.proofs.Common.{◌∙◌, ap}
use Rattle.tree_values.specs.Models.{answer_at, answered_tree}
use Rattle.formula_tree.specs.Looks.{value_in}
use Rattle.formula_tree.proofs.Laws.{value-is}
use Rattle.tree_values.proofs.tree_values.TreeValues.value.Goals as goal

pub returns : goal.returns
returns c = λ path same. c.value_in.ensures ∙ ap value_in c.seen.ensures ∙ value-is path (answer_at c.args.self.now.answers) same (answered_tree c.args.self.now)

use Rattle.std.proofs.Common.{◌∙◌, ap, refl}
use Rattle.formula_tree.specs.Answers.{answer_of}
use Rattle.formula_tree.specs.Looks.{value_in}
use Rattle.formula_tree.specs.Trees.{tree_of}
use Rattle.formula_tree.proofs.Looking.{value-is}
use Rattle.formula_tree.proofs.value.value3.Goals as goal

pub returns : goal.returns
returns c =
    let path = c.args.path.now in
    c.value_in.ensures ∙ ap value_in c.look_at.ensures ∙ value-is path (answer_of path) (λ n. refl) (tree_of c.args.formula.now)

use Rattle.std.proofs.Common.{ap, sym, ◌∙◌}
use Rattle.formula_tree.specs.Trees.{Tree, tree_of, trees_of}
use Rattle.formula_tree.specs.declared.formula.Formula.{Formula}
use Rattle.set_questions.specs.Numbering.{inner_trees}
use Rattle.set_questions.proofs.Numbered.{list-again, tree-OneOf}
use Rattle.set_questions.proofs.numbering.branches_in.Goals as goal

pub returns-in-OneOf : goal.returns-in-OneOf
returns-in-OneOf c =
    let b = c.in-OneOf.branches in
    sym (list-again (trees_of b)) ∙ ap (λ (t : Tree). inner_trees t) (sym (tree-OneOf b)) ∙ ap (λ (f : Formula). inner_trees (tree_of f)) (sym c.in-OneOf.is)

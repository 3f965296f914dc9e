use Rattle.std.proofs.Common.{List, ℕ, ap, ◌∙◌}
use Rattle.formula_tree.specs.Trees.{tree_of}
use Rattle.formula_tree.specs.declared.formula.Formula.{Formula}
use Rattle.findings.specs.Renumbering.{renumbered_tree}
use Rattle.findings.proofs.numbering.Numbering.renumbered.Goals as goal

pub returns : goal.returns
returns c =
    let is = ap tree_of c.in_ok-new.ensures.ok ∙ c.in_ok-formula.ensures ∙ ap (λ (x : List ℕ). renumbered_tree x (tree_of c.deref.result.now)) c.as_slice.ensures.value ∙ ap (λ (f : Formula). renumbered_tree c.in_ok-numbers.numbers.items (tree_of f)) c.deref.ensures in
    record { numbers = c.in_ok-numbers.numbers.items; are = c.in_ok-numbers.ensures; tree = is }

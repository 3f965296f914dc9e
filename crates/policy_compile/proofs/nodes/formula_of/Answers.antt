use Rattle.std.proofs.Common.{◌∙◌}
use Rattle.policy_compile.proofs.Standing.{not-tree}
use Rattle.policy_compile.proofs.nodes.formula_of.Goals as goal

pub returns-in_ok-clone-in-Not : goal.returns-in_ok-clone-in-Not
returns-in_ok-clone-in-Not c = c.not_of.ensures ∙ not-tree c.args.formulas.now c.args.node.now c.in-Not.i c.index-formulas-i.result c.in_ok-clone-in-Not.field-0.value c.in-Not.is c.requires c.index-formulas-i.is c.in_ok-clone-in-Not.ensures.cases

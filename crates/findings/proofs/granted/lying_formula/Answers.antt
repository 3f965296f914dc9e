use Rattle.formula_tree.specs.Trees.{tree_of, trees_of}
use Rattle.findings.proofs.Plainly.{lying-asked}
use Rattle.findings.proofs.granted.lying_formula.Goals as goal

pub returns : goal.returns
returns c =
    lying-asked c.args.strata.now.dimensions c.args.finding.now c.args.numbering.now.tests.keys c.add_own.new.self.tests.keys c.no_finer.new.self.tests.keys (trees_of c.new-branches.result) (trees_of c.add_own.new.branches) (tree_of c.in_ok-no_finer.field-0.value) c.push.new.self c.in_ok-formula.formula.value
    c.requires.tests c.new-branches.ensures c.in_ok-add_own.ensures c.in_ok-no_finer.ensures c.in_ok-push.ensures.ok c.in_ok-formula.ensures.ok

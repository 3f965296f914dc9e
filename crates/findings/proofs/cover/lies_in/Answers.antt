use Rattle.formula_tree.specs.Trees.{trees_of}
use Rattle.findings.specs.Queries.{own_plans}
use Rattle.findings.proofs.Covered.{all-asked}
use Rattle.findings.proofs.cover.lies_in.Goals as goal

pub returns : goal.returns
returns c =
    all-asked c.args.numbering.now.tests.keys c.add_own.new.self.tests.keys (own_plans c.args.strata.now.dimensions c.args.finding.now) (trees_of c.new-branches.result) c.add_own.new.branches c.in_ok-formula.formula.value
    c.new-branches.ensures c.in_ok-add_own.ensures c.in_ok-formula.ensures.ok

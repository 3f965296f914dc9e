use Rattle.formula_tree.specs.Trees.{trees_of}
use Rattle.findings.specs.Queries.{finer_plans}
use Rattle.findings.proofs.Plans.{none-of-asked}
use Rattle.findings.proofs.numbering.Numbering.no_finer.Goals as goal

pub returns : goal.returns
returns c =
    none-of-asked c.args.self.now.tests.keys c.add_finer.new.self.tests.keys (finer_plans c.args.strata.now.dimensions c.args.finding.now) (trees_of c.new-branches.result) c.add_finer.new.branches c.in_ok-some.some c.in_ok-formula.formula.value
    c.new-branches.ensures c.in_ok-add_finer.ensures c.in_ok-some.ensures.ok c.in_ok-formula.ensures.ok

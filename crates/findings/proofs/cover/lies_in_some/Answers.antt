use Rattle.std.proofs.Common.{map}
use Rattle.formula_tree.specs.Trees.{trees_of}
use Rattle.findings.specs.CoverQueries.{lies_plan}
use Rattle.findings.proofs.Plans.{some-of-asked}
use Rattle.findings.proofs.cover.lies_in_some.Goals as goal

pub returns : goal.returns
returns c =
    some-of-asked c.args.numbering.now.tests.keys c.add_each.new.numbering.tests.keys (map (lies_plan c.args.strata.now.dimensions) c.args.findings.now) (trees_of c.new-branches.result) c.add_each.new.branches c.in_ok-formula.formula.value
    c.new-branches.ensures c.in_ok-add_each.ensures c.in_ok-formula.ensures.ok

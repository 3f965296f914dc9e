use Rattle.std.proofs.Common.{map, take}
use Rattle.formula_tree.specs.Trees.{trees_of}
use Rattle.findings.specs.Asked.{AreAsked}
use Rattle.findings.specs.CoverQueries.{lies_plan}
use Rattle.findings.proofs.cover.add_each.Given as goal

abbrev pub invariant-findings : goal.invariant-findings
invariant-findings l = AreAsked l.initial.numbering.tests.keys l.numbering.tests.keys (map (lies_plan l.strata.dimensions) (take l.finding-index l.finding-items)) (trees_of l.initial.branches) (trees_of l.branches)

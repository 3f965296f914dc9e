use Rattle.std.proofs.Common.{map, take}
use Rattle.formula_tree.specs.Trees.{trees_of}
use Rattle.findings.specs.Asked.{AreAsked}
use Rattle.findings.specs.Queries.{number_plan}
use Rattle.findings.proofs.numbering.Numbering.add_finer_at.Given as goal

abbrev pub invariant-below : goal.invariant-below
invariant-below l = AreAsked l.initial.self.tests.keys l.self.tests.keys (map (number_plan l.stratum) (take l.lower-index l.lower-items)) (trees_of l.initial.branches) (trees_of l.branches)

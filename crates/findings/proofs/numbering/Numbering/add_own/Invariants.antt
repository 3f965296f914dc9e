use Rattle.std.proofs.Common.{take}
use Rattle.formula_tree.specs.Trees.{trees_of}
use Rattle.findings.specs.Asked.{AreAsked}
use Rattle.findings.specs.Queries.{own_plans}
use Rattle.findings.proofs.numbering.Numbering.add_own.Given as goal

abbrev pub invariant-dimensions : goal.invariant-dimensions
invariant-dimensions l = AreAsked l.initial.self.tests.keys l.self.tests.keys (own_plans (take l.i l.strata.dimensions) (take l.i l.finding)) (trees_of l.initial.branches) (trees_of l.branches)

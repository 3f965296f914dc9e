use Rattle.std.proofs.Common.{take}
use Rattle.formula_tree.specs.Trees.{all, children_of, trees_of}
use Rattle.formula_nodes.specs.Claims.{AddsTestsOf, Grows}
use Rattle.formula_nodes.specs.Standing.{node_trees}
use Rattle.set_questions.specs.Numbering.{AreTreeClaims}
use Rattle.set_questions.proofs.numbering.numbered.Given as goal

-- the claims so far
abbrev pub invariant-branches : goal.invariant-branches
invariant-branches l =
    Grows (node_trees l.initial.nodes) (node_trees l.nodes) × AddsTestsOf (all (children_of l.branches)) (node_trees l.initial.nodes) (node_trees l.nodes) × AreTreeClaims (node_trees l.nodes) (take l.i (trees_of l.branches)) l.claims

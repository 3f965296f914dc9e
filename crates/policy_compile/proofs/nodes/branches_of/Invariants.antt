use Rattle.std.proofs.Common.{◌≡◌, map, take}
use Rattle.formula_tree.specs.Trees.{trees_of}
use Rattle.policy_compile.specs.Nodes.{tree_in}
use Rattle.policy_compile.proofs.nodes.branches_of.Given as goal

-- the branches so far
abbrev pub invariant-loop-i : goal.invariant-loop-i
invariant-loop-i l = trees_of l.branches ≡ map (tree_in l.formulas) (take l.i-index l.indices)

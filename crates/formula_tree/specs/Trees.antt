-- The plain tree that a formula stands for.
use Rattle.std.specs.Prelude.{ℕ, List, [], ◌∷◌}
use Rattle.formula_tree.specs.declared.formula.Formula.{Formula, fold-Formula}
use Rattle.formula_tree.specs.declared.formula.Formula.TheOpen.{Formula-F, Branches-F, Branch-F}
use Rattle.formula_tree.specs.declared.formula.Branches.{Branches, fold-Branches}
use Rattle.formula_tree.specs.declared.formula.Branch.{Branch, fold-Branch}

mutual
  -- a tree over numbered tests: `all` holds where each branch holds, `one_of` where some branch does
  pub data Tree : Type 0 where
    yes : Tree
    no : Tree
    test : ℕ → Tree
    not : Tree → Tree
    all : Trees → Tree
    one_of : Trees → Tree

  -- branches, in order
  pub data Trees : Type 0 where
    none : Trees
    more : Tree → Trees → Trees

-- the trees of a list, as branches
abbrev pub of_list : List Tree → Trees
of_list [] = none
of_list (t ∷ ts) = more t (of_list ts)

-- one level of a formula, with what is below it already seen as trees
abbrev pub formula_step : Formula-F Tree Tree (List Tree) → Tree
formula_step Formula-F.Yes = yes
formula_step Formula-F.No = no
formula_step (Formula-F.Test n) = test n
formula_step (Formula-F.Not r) = not r.value
formula_step (Formula-F.All b) = all (of_list b)
formula_step (Formula-F.OneOf b) = one_of (of_list b)

abbrev pub branches_step : Branches-F Tree Tree (List Tree) → List Tree
branches_step b = b.items.items

abbrev pub branch_step : Branch-F Tree Tree (List Tree) → Tree
branch_step b = b.formula.value

-- the tree that a formula stands for, read through every sharing
abbrev pub tree_of : Formula → Tree
tree_of = fold-Formula Tree Tree (List Tree) formula_step branch_step branches_step

-- the trees of the branches, in order
abbrev pub trees_of : Branches → List Tree
trees_of = fold-Branches Tree Tree (List Tree) formula_step branch_step branches_step

-- the branches as a node of a tree has them
abbrev pub children_of : Branches → Trees
children_of branches = of_list (trees_of branches)

abbrev pub branch_tree : Branch → Tree
branch_tree = fold-Branch Tree Tree (List Tree) formula_step branch_step branches_step

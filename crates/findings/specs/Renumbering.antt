-- Trees with other numbers of their tests.
use Rattle.std.specs.Prelude.{ℕ, List, slice_index}
use Rattle.formula_tree.specs.Trees.{Tree, Trees, all, more, no, none, not, one_of, test, yes}

-- the tree with the number of each test replaced by the one at its index
abbrev mutual
  pub renumbered_tree : List ℕ → Tree → Tree
  renumbered_tree numbers yes = yes
  renumbered_tree numbers no = no
  renumbered_tree numbers (test n) = test (slice_index numbers n)
  renumbered_tree numbers (not t) = not (renumbered_tree numbers t)
  renumbered_tree numbers (all ts) = all (renumbered_each numbers ts)
  renumbered_tree numbers (one_of ts) = one_of (renumbered_each numbers ts)

  pub renumbered_each : List ℕ → Trees → Trees
  renumbered_each numbers none = none
  renumbered_each numbers (more t ts) = more (renumbered_tree numbers t) (renumbered_each numbers ts)

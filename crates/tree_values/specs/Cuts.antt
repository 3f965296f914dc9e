-- Which answers of a path are needed for a tree to stay no with one more answer.
use Rattle.std.specs.Prelude.{◌≡◌, ◌⊎◌, ℕ, Bool, true, false, Some}
use Rattle.formula_tree.specs.Answers.{Answers, Contained, answer_of}
use Rattle.formula_tree.specs.Runs.{path_with}
use Rattle.formula_tree.specs.Trees.{Tree}
use Rattle.formula_tree.specs.Values.{value}
use Rattle.formula_tree.specs.declared.value.Three.TheVariants.{No}
use Rattle.tree_values.specs.Omitting.{path_without}
use Rattle.tree_values.specs.declared.cut.Sides.{Sides}

-- the tree is no on each of the wanted sides of a split
pub record IsNoOn (tree : Tree) (answers : Answers) (test : ℕ) (sides : Sides) : Type 0 where
  pub yes : sides.yes ≡ true → value (path_with answers test true) tree ≡ No
  pub no : sides.no ≡ true → value (path_with answers test false) tree ≡ No

-- answers of the path, those that are needed anyway among them, under which the tree is still no on the wanted sides; and without
-- any of the others it isn't
pub record IsLeastCut (tree : Tree) (path needed : Answers) (test : ℕ) (sides : Sides) (answers : Answers) : Type 0 where
  pub needed_there : Contained needed answers
  pub there : Contained answers path
  pub still : IsNoOn tree answers test sides
  pub least : (n : ℕ) (b : Bool) → answer_of answers n ≡ Some b →
      (answer_of needed n ≡ Some b) ⊎ ¬ IsNoOn tree (path_without answers n) test sides

-- The nodes of a plain run.
use Rattle.std.specs.Prelude.{◌≡◌, ℕ, true, false, Some}
use Rattle.formula_tree.specs.Answers.{Answers}
use Rattle.formula_tree.specs.Runs.{Run, path_with}
use Rattle.formula_tree.specs.Trees.{Tree}
use Rattle.formula_tree.specs.Values.{pick}

-- no run from the path ends with a request
abbrev pub EndsWithNone : (Answers → Type 0) → Tree → Answers → Type 0
EndsWithNone possible tree path = (k : ℕ) → ¬ Run possible tree path true k

-- the second path is a node of the run from the first: at a split the run goes on to the yes side, and to the no side where it
-- ends with no request from the yes side
pub data IsNode (possible : Answers → Type 0) (tree : Tree) : Answers → Answers → Type 0 where
  at_start : (path : Answers) → IsNode possible tree path path
  in_yes : (path node : Answers) (n : ℕ) → possible path → pick path tree ≡ Some n →
      IsNode possible tree (path_with path n true) node → IsNode possible tree path node
  in_no : (path node : Answers) (n : ℕ) → possible path → pick path tree ≡ Some n →
      EndsWithNone possible tree (path_with path n true) → IsNode possible tree (path_with path n false) node →
      IsNode possible tree path node

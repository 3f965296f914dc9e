-- The propagated run of a query: the plain run, in which a path from which unit propagation meets a conflict is closed too.
use Rattle.std.specs.Prelude.{◌≡◌, ◌<◌, ℕ, ◌+◌, List, length, Bool, true, false, Some}
use Rattle.formula_tree.specs.declared.value.Three.TheVariants.{Yes, No}
use Rattle.formula_tree.specs.Answers.{Answers}
use Rattle.formula_tree.specs.Runs.{path_with}
use Rattle.formula_tree.specs.Trees.{Tree}
use Rattle.formula_tree.specs.Values.{pick, value}
use Rattle.cnf_clauses.specs.Numbering.{clauses_of}
use Rattle.cnf_clauses.specs.Replays.{Replays}
use Rattle.policy_model.specs.declared.schema.Schema.{Schema}
use Rattle.policy_model.specs.declared.test.Test.{Test}
use Rattle.slot_theory.specs.Possible.{IsPossible}

-- some hints replay from the path: unit propagation meets a conflict
pub record MeetsConflict (tests : List Test) (tree : Tree) (path : Answers) : Type 0 where
  pub hints : List ℕ
  pub replay : Replays (clauses_of (length tests) tree) path hints

-- The run from a path: it ends with a path that can be met and makes the tree yes where the Bool is true, and without one where it
-- is false, after so many splits. A path is split only where it meets no conflict.
pub data PropagatedRun (schema : Schema) (tests : List Test) (tree : Tree) : Answers → Bool → ℕ → Type 0 where
  no_by_value : (path : Answers) → value path tree ≡ No → PropagatedRun schema tests tree path false 0
  no_by_path : (path : Answers) → ¬ IsPossible schema tests path → PropagatedRun schema tests tree path false 0
  yes_by_value : (path : Answers) → value path tree ≡ Yes → IsPossible schema tests path →
      PropagatedRun schema tests tree path true 0
  no_by_clauses : (path : Answers) → MeetsConflict tests tree path → PropagatedRun schema tests tree path false 0
  yes_side : (path : Answers) (n k all : ℕ) → IsPossible schema tests path → ¬ MeetsConflict tests tree path →
      pick path tree ≡ Some n → PropagatedRun schema tests tree (path_with path n true) true k → all ≡ k + 1 →
      PropagatedRun schema tests tree path true all
  no_side : (path : Answers) (n : ℕ) (end : Bool) (k m all : ℕ) → IsPossible schema tests path →
      ¬ MeetsConflict tests tree path → pick path tree ≡ Some n →
      PropagatedRun schema tests tree (path_with path n true) false k →
      PropagatedRun schema tests tree (path_with path n false) end m → all ≡ k + m + 1 →
      PropagatedRun schema tests tree path end all

-- the propagated run from the path needs more splits than the number
abbrev pub PropagatedNeedsMore : Schema → List Test → Tree → Answers → ℕ → Type 0
PropagatedNeedsMore schema tests tree path splits =
    (end : Bool) (n : ℕ) → PropagatedRun schema tests tree path end n → splits < n

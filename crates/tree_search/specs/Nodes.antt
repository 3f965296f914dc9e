-- The nodes of both runs, and how many splits a search makes on its way to one.
use Rattle.std.specs.Prelude.{◌≡◌, ◌≤◌, ◌+◌, ℕ, Bool, true, false, Some}
use Rattle.formula_tree.specs.Answers.{Answers}
use Rattle.formula_tree.specs.Runs.{Run, path_with}
use Rattle.formula_tree.specs.Values.{pick}
use Rattle.policy_model.specs.declared.schema.Schema.{Schema}
use Rattle.policy_compile.specs.declared.outcome.Query.{Query}
use Rattle.policy_compile.specs.Queries.{asked_tree}
use Rattle.slot_theory.specs.Possible.{IsPossible}
use Rattle.refute_check.specs.Closing.{Before, Closes, after_part}
use Rattle.refute_check.specs.Proofs.{Proof, splits}
use Rattle.refute_check.specs.Propagated.{MeetsConflict, PropagatedRun}

-- a run from the path ends without a request, after at least so many splits
abbrev pub EndsUnmet : (Answers → Bool → ℕ → Type 0) → Answers → ℕ → Type 0
EndsUnmet runs path used = (end : Bool) (n : ℕ) → runs path end n → (end ≡ false) × (used ≤ n)

-- both runs from the path end without a request and have at least so many splits
pub record IsCounted (schema : Schema) (query : Query) (path : Answers) (used : ℕ) : Type 0 where
  pub plain : EndsUnmet (Run (IsPossible schema query.tests) (asked_tree query)) path used
  pub propagated : EndsUnmet (PropagatedRun schema query.tests (asked_tree query)) path used

-- The path is closed by so many splits, after what stands before. Those of the refutation are among them; others proved needless. Both
-- runs from the path have at least as many.
pub record IsClosedAfter (schema : Schema) (query : Query) (before : Before) (made : ℕ) (path : Answers) (passed : Proof) : Type 0 where
  pub closes : Closes schema query.tests (asked_tree query) before passed path
  pub among : splits passed ≤ made
  pub counted : IsCounted schema query path made

-- So many splits lead from the first path to the second, after what stands before: those on the way, and those by which each yes side
-- that is passed is closed. What is passed stands before what follows.
pub data LeadTo (schema : Schema) (query : Query) : Before → ℕ → Answers → Answers → Type 0 where
  nowhere : (before : Before) (path : Answers) → LeadTo schema query before 0 path path
  to_yes : (before : Before) (path node : Answers) (n k all : ℕ) → LeadTo schema query before k (path_with path n true) node →
      all ≡ k + 1 → LeadTo schema query before all path node
  to_no : (before : Before) (path node : Answers) (n made k all : ℕ) (passed : Proof) →
      IsClosedAfter schema query before made (path_with path n true) passed →
      LeadTo schema query (after_part before passed) k (path_with path n false) node → all ≡ made + k + 1 →
      LeadTo schema query before all path node

-- both runs split at the path: it is possible, a test is picked, and unit propagation meets no conflict
pub record IsToBeSplit (schema : Schema) (query : Query) (path : Answers) : Type 0 where
  pub possible : IsPossible schema query.tests path
  pub test : ℕ
  pub picks : pick path (asked_tree query) ≡ Some test
  pub quiet : ¬ MeetsConflict query.tests (asked_tree query) path

-- The second path is a node of the propagated run from the first: where both runs split, it goes on to the yes side, and to the no side
-- where it ends with no request from the yes side
pub data IsPropagatedNode (schema : Schema) (query : Query) : Answers → Answers → Type 0 where
  at_start : (path : Answers) → IsPropagatedNode schema query path path
  in_yes : (path node : Answers) (split : IsToBeSplit schema query path) →
      IsPropagatedNode schema query (path_with path split.test true) node → IsPropagatedNode schema query path node
  in_no : (path node : Answers) (split : IsToBeSplit schema query path) →
      ((k : ℕ) → ¬ PropagatedRun schema query.tests (asked_tree query) (path_with path split.test true) true k) →
      IsPropagatedNode schema query (path_with path split.test false) node → IsPropagatedNode schema query path node

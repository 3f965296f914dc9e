-- What the plain run and the propagated run of a query come to.
use Rattle.std.specs.Prelude.{◌≡◌, ◌≤◌, ℕ, List, Bool, true, false}
use Rattle.formula_tree.specs.Answers.{Answers}
use Rattle.formula_tree.specs.Runs.{Run}
use Rattle.formula_tree.specs.Trees.{Tree}
use Rattle.policy_model.specs.declared.request.Request.{Request}
use Rattle.policy_model.specs.declared.schema.Schema.{Schema}
use Rattle.policy_model.specs.declared.test.Test.{Test}
use Rattle.slot_theory.specs.Possible.{IsPossible, PathInRange}
use Rattle.refute_check.specs.Laws.{IsMetBy, NoneMeets, TreeInRange}
use Rattle.refute_check.specs.Propagated.{PropagatedRun}

-- some valid request answers the path and makes the query yes
pub record SomeRequestMeets (schema : Schema) (tests : List Test) (tree : Tree) (path : Answers) : Type 0 where
  pub request : Request
  pub is : IsMetBy schema tests tree path request

-- from a path the plain run ends exactly where some valid request answers the path and makes the query yes
abbrev pub PlainRunsEndWhereMet : Type 0
PlainRunsEndWhereMet = (schema : Schema) (tests : List Test) (tree : Tree) (path : Answers) (n : ℕ) →
    TreeInRange tests tree → PathInRange tests path →
    (Run (IsPossible schema tests) tree path true n → SomeRequestMeets schema tests tree path) ×
    (Run (IsPossible schema tests) tree path false n → NoneMeets schema tests tree path)

-- and so does the propagated run; the variables of the tree's nodes are those behind the tests, so both tree and path are to be
-- over the query's tests
abbrev pub PropagatedRunsEndWhereMet : Type 0
PropagatedRunsEndWhereMet = (schema : Schema) (tests : List Test) (tree : Tree) (path : Answers) (n : ℕ) →
    TreeInRange tests tree → PathInRange tests path →
    (PropagatedRun schema tests tree path true n → SomeRequestMeets schema tests tree path) ×
    (PropagatedRun schema tests tree path false n → NoneMeets schema tests tree path)

-- a path has one propagated run
abbrev pub PropagatedRunsAgree : Type 0
PropagatedRunsAgree = (schema : Schema) (tests : List Test) (tree : Tree) (path : Answers) (first second : Bool) (n m : ℕ) →
    TreeInRange tests tree → PathInRange tests path → PropagatedRun schema tests tree path first n →
    PropagatedRun schema tests tree path second m → (first ≡ second) × (n ≡ m)

-- and it ends as the plain run does, after at most as many splits
abbrev pub PropagatedRunsAreShorter : Type 0
PropagatedRunsAreShorter = (schema : Schema) (tests : List Test) (tree : Tree) (path : Answers) (first second : Bool) (n m : ℕ) →
    TreeInRange tests tree → PathInRange tests path → PropagatedRun schema tests tree path first n →
    Run (IsPossible schema tests) tree path second m → (first ≡ second) × (n ≤ m)

-- it isn't so that there is no propagated run from the path
abbrev pub PropagatedRunsExist : Type 0
PropagatedRunsExist = (schema : Schema) (tests : List Test) (tree : Tree) (path : Answers) → TreeInRange tests tree →
    ¬ ((end : Bool) (n : ℕ) → ¬ PropagatedRun schema tests tree path end n)

-- What a refutation that closes says of all requests.
use Rattle.std.specs.Prelude.{ℕ, List, [], Bool, IsTrue, length}
use Rattle.formula_tree.specs.Answers.{Answers}
use Rattle.formula_tree.specs.Trees.{Tree}
use Rattle.formula_tree.specs.Values.{AreBelow, holds}
use Rattle.policy_model.specs.declared.request.Request.{Request}
use Rattle.policy_model.specs.declared.schema.Schema.{Schema}
use Rattle.policy_model.specs.declared.test.Test.{Test}
use Rattle.policy_model.specs.Requests.{IsValid}
use Rattle.policy_compile.specs.Meaning.{AnswersAs}
use Rattle.slot_theory.specs.Possible.{AnswersPath, PathInRange}
use Rattle.refute_check.specs.Closing.{Closes, at_first}
use Rattle.refute_check.specs.Proofs.{Proof}

-- the tree holds under the tests' answers on the request
abbrev pub MakesYes : List Test → Tree → Request → Type 0
MakesYes tests tree r = (answers : ℕ → Bool) × AnswersAs answers r tests × IsTrue (holds answers tree)

-- a valid request that answers the path and makes the query yes
pub record IsMetBy (schema : Schema) (tests : List Test) (tree : Tree) (path : Answers) (r : Request) : Type 0 where
  pub valid : IsValid schema r
  pub answers : AnswersPath tests path r
  pub meets : MakesYes tests tree r

-- no request does
abbrev pub NoneMeets : Schema → List Test → Tree → Answers → Type 0
NoneMeets schema tests tree path = (r : Request) → ¬ IsMetBy schema tests tree path r

-- the tests of the query's tree are its own
abbrev pub TreeInRange : List Test → Tree → Type 0
TreeInRange tests tree = AreBelow (length tests) tree

-- where a refutation closes the query under a path that answers tests of the query alone, no valid request answers the path and
-- makes the query yes, whoever wrote it
abbrev pub ClosedPathsAreNo : Type 0
ClosedPathsAreNo =
    (schema : Schema) (tests : List Test) (tree : Tree) (proof : Proof) (path : Answers) → TreeInRange tests tree →
    PathInRange tests path → Closes schema tests tree at_first proof path → NoneMeets schema tests tree path

-- where it closes the query under the empty path, no valid request makes the query yes
abbrev pub ClosedQueriesAreNo : Type 0
ClosedQueriesAreNo =
    (schema : Schema) (tests : List Test) (tree : Tree) (proof : Proof) → TreeInRange tests tree →
    Closes schema tests tree at_first proof [] → (r : Request) → IsValid schema r → MakesYes tests tree r → ⊥

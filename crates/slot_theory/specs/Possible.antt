-- Which paths of answered tests a valid request can answer.
use Rattle.std.specs.Prelude.{◌≡◌, ◌<◌, ℕ, List, length, Bool, Some, slice_get, Contains, MatchBool}
use Rattle.formula_tree.specs.Answers.{Answers, answer_of}
use Rattle.policy_model.specs.declared.request.Request.{Request}
use Rattle.policy_model.specs.declared.schema.Schema.{Schema}
use Rattle.policy_model.specs.declared.test.Test.{Test}
use Rattle.policy_model.specs.Requests.{IsValid}
use Rattle.policy_model.specs.Tests.{TestHolds}

-- each answered test has a number in range
abbrev pub PathInRange : List Test → Answers → Type 0
PathInRange tests path = (n : ℕ) (b : Bool) → answer_of path n ≡ Some b → n < length tests

-- the request answers each answered test as the path does
abbrev pub AnswersPath : List Test → Answers → Request → Type 0
AnswersPath tests path r =
    (n : ℕ) (b : Bool) (t : Test) → answer_of path n ≡ Some b → slice_get tests n ≡ Some t →
    MatchBool b (TestHolds r t) (¬ TestHolds r t)

-- the request answers each test of the core as the path does
abbrev pub AnswersCore : List Test → Answers → List ℕ → Request → Type 0
AnswersCore tests path core r =
    (n : ℕ) (b : Bool) (t : Test) → Contains core n → answer_of path n ≡ Some b → slice_get tests n ≡ Some t →
    MatchBool b (TestHolds r t) (¬ TestHolds r t)

-- some valid request answers the path
pub record IsPossible (schema : Schema) (tests : List Test) (path : Answers) : Type 0 where
  pub request : Request
  pub valid : IsValid schema request
  pub answers : AnswersPath tests path request

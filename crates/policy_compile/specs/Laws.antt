-- What follows from the definitions of plans and of their numbering.
use Rattle.std.specs.Prelude.{◌↔◌, ◌≡◌, ℕ, List, [], All, Bool, false, IsTrue, length}
use Rattle.formula_tree.specs.Trees.{Tree}
use Rattle.formula_tree.specs.Values.{AreBelow, holds}
use Rattle.policy_model.specs.Requests.{IsValid}
use Rattle.policy_model.specs.Sets.{Allows}
use Rattle.policy_model.specs.Soundness.{SchemaFits, TestSuits}
use Rattle.policy_model.specs.declared.schema.Schema.{Schema}
use Rattle.policy_model.specs.declared.request.Request.{Request}
use Rattle.policy_model.specs.declared.set.PolicySet.{PolicySet}
use Rattle.policy_model.specs.declared.test.Test.{Test}
use Rattle.policy_compile.specs.Meaning.{AnswersAs}
use Rattle.policy_compile.specs.Numbering.{Collects, IsNumbered}
use Rattle.policy_compile.specs.Plans.{Plan, tests_in}
use Rattle.policy_compile.specs.Sets.{query_plan, set_plan}

-- the request is valid under the schema, which fits both sets, and the tree of their query is numbered by tests, each of which is
-- answered as the request answers it
pub record AsksPair (schema : Schema) (first second : PolicySet) (r : Request) (answers : ℕ → Bool) (tree : Tree) : Type 0 where
  pub first_fits : SchemaFits schema first
  pub second_fits : SchemaFits schema second
  pub valid : IsValid schema r
  pub tests : List Test
  pub say : AnswersAs answers r tests
  pub numbered : IsNumbered tests (query_plan schema first second) tree

-- these facts for one set
pub record AsksSet (schema : Schema) (set : PolicySet) (r : Request) (answers : ℕ → Bool) (tree : Tree) : Type 0 where
  pub fits : SchemaFits schema set
  pub valid : IsValid schema r
  pub tests : List Test
  pub say : AnswersAs answers r tests
  pub numbered : IsNumbered tests (set_plan schema set) tree

-- the tree of a query holds where the first set alone allows the request
abbrev pub QueriesCompare : Type 0
QueriesCompare =
    (schema : Schema) (first second : PolicySet) (r : Request) (answers : ℕ → Bool) (tree : Tree) →
    AsksPair schema first second r answers tree →
    (IsTrue (holds answers tree) ↔ (Allows schema first r × ¬ Allows schema second r))

-- where it doesn't hold, and the first set allows the request, so does the second
abbrev pub RefutedQueriesCover : Type 0
RefutedQueriesCover =
    (schema : Schema) (first second : PolicySet) (r : Request) (answers : ℕ → Bool) (tree : Tree) →
    AsksPair schema first second r answers tree → holds answers tree ≡ false → Allows schema first r → Allows schema second r

-- the tree of a set's query holds where the set allows the request
abbrev pub SetQueriesAllow : Type 0
SetQueriesAllow =
    (schema : Schema) (set : PolicySet) (r : Request) (answers : ℕ → Bool) (tree : Tree) →
    AsksSet schema set r answers tree → (IsTrue (holds answers tree) ↔ Allows schema set r)

-- each number in the tree of a plan is below the number of the tests
abbrev pub NumbersAreBelow : Type 0
NumbersAreBelow = (plan : Plan) (tests : List Test) (tree : Tree) → IsNumbered tests plan tree → AreBelow (length tests) tree

-- the tests of a query suit the schema, where it fits both sets
abbrev pub TestsOfQueriesSuit : Type 0
TestsOfQueriesSuit =
    (schema : Schema) (first second : PolicySet) (tests : List Test) → SchemaFits schema first → SchemaFits schema second →
    Collects [] (tests_in (query_plan schema first second)) tests → All (TestSuits schema) tests

-- the tests of a set's query suit the schema, where it fits the set
abbrev pub TestsOfSetQueriesSuit : Type 0
TestsOfSetQueriesSuit =
    (schema : Schema) (set : PolicySet) (tests : List Test) → SchemaFits schema set →
    Collects [] (tests_in (set_plan schema set)) tests → All (TestSuits schema) tests

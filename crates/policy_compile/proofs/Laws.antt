-- The lemmas that crates above may cite: what numbered trees and the plans of sets say, the ranges of numbers and tests, and limits.
use Rattle.std.proofs.Common.{◌≡◌, ℕ, Bool, false, List, All, IsTrue, ◌↔◌, length}
use Rattle.formula_tree.specs.Trees as tree
use Rattle.formula_tree.specs.Values.{AreBelow, holds}
use Rattle.policy_model.specs.declared.request.Request.{Request}
use Rattle.policy_model.specs.declared.schema.Schema.{Schema}
use Rattle.policy_model.specs.declared.set.PolicySet.{PolicySet}
use Rattle.policy_model.specs.declared.test.Test.{Test}
use Rattle.policy_model.specs.Requests.{IsValid}
use Rattle.policy_model.specs.Sets.{Allows}
use Rattle.policy_model.specs.Soundness.{SchemaFits, TestSuits}
use Rattle.policy_compile.specs.Asked.{IsAskedBy, SomeStatementOf}
use Rattle.policy_compile.specs.Laws.{AsksPair}
use Rattle.policy_compile.specs.Meaning.{AnswersAs}
use Rattle.policy_compile.specs.Numbering.{Collects, IsNumbered}
use Rattle.policy_compile.specs.Plans.{Plan, PlanHolds, tests_in}
use Rattle.policy_compile.specs.Sets.{query_plan, set_plan}
use Rattle.policy_compile.proofs.Covering as covering
use Rattle.policy_compile.proofs.Meanings as meanings
use Rattle.policy_compile.proofs.Ranges as ranges
-- plans with the same tests meet limits alike, and a query is past no limit
pub use Rattle.policy_compile.proofs.Within.{same-limits, query-within}
-- what is got of tests that were read has no test twice, and those that were read and no others
pub use Rattle.policy_compile.proofs.Within.{apart-collects, had-read, read-had}
-- the query of a set and of a part of it has the tests of the set's query
pub use Rattle.policy_compile.proofs.Members.{part-asks}
-- what a list in which nothing stands twice sums up to within a longer one; two such lists with the same items
pub use Rattle.policy_compile.proofs.Distinct.{IsApart, sum-within}

-- a numbered tree holds under the request's answers where its plan does of the request
pub holds-numbered : (answers : ℕ → Bool) (r : Request) (tests : List Test) → AnswersAs answers r tests → (p : Plan) (t : tree.Tree) → IsNumbered tests p t → (IsTrue (holds answers t) ↔ PlanHolds r p)
holds-numbered = meanings.holds-numbered

-- on a valid request a set's plan holds where the set allows the request
pub set-holds : (schema : Schema) (r : Request) (set : PolicySet) → SchemaFits schema set → IsValid schema r → (PlanHolds r (set_plan schema set) ↔ Allows schema set r)
set-holds = meanings.set-holds

-- on a valid request a query's plan holds where the first set alone allows the request
pub query-holds : (schema : Schema) (r : Request) (first second : PolicySet) → SchemaFits schema first → SchemaFits schema second → IsValid schema r →
    (PlanHolds r (query_plan schema first second) ↔ (Allows schema first r × ¬ Allows schema second r))
query-holds = meanings.query-holds

-- where a query's tree doesn't hold, and the first set allows the request, so does the second
pub query-covers : (schema : Schema) (first second : PolicySet) (r : Request) (t : tree.Tree) (answers : ℕ → Bool) → AsksPair schema first second r answers t →
    holds answers t ≡ false → Allows schema first r → Allows schema second r
query-covers = covering.query-covers

-- each number in a numbered tree is below the number of the tests
pub below-numbered : (tests : List Test) (p : Plan) (t : tree.Tree) → IsNumbered tests p t → AreBelow (length tests) t
below-numbered = ranges.below-numbered

-- what holds of the tests that are had and of those that are read holds of those that are got
pub All-collects : (P : Test → Type 0) (had read got : List Test) → Collects had read got → All P had → All P read → All P got
All-collects = ranges.All-collects

-- the tests of a query's plan suit a schema that fits both sets
pub suit-query : (schema : Schema) (first second : PolicySet) → SchemaFits schema first → SchemaFits schema second → All (TestSuits schema) (tests_in (query_plan schema first second))
suit-query = ranges.suit-query

-- each test of a set's plan is asked by a statement of the set
pub set-asked : (schema : Schema) (set : PolicySet) → All (λ t. SomeStatementOf (IsAskedBy schema t) set) (tests_in (set_plan schema set))
set-asked = ranges.set-asked

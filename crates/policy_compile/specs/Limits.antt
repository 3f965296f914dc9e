-- The limits of queries: where tests come from, and when the limits of two queries are met alike.
use Rattle.std.specs.Prelude.{◌≡◌, ◌↔◌, List, [], All, Contains}
use Rattle.policy_model.specs.declared.schema.Schema.{Schema}
use Rattle.policy_model.specs.declared.set.PolicySet.{PolicySet}
use Rattle.policy_model.specs.declared.test.Test.{Test}
use Rattle.policy_compile.specs.declared.builder.TheConstants.{MOST_TESTS}
use Rattle.policy_compile.specs.declared.compile.TheConstants.{ACCOUNT_PIECES, MOST_PIECES}
use Rattle.policy_compile.specs.declared.outcome.Query.{Query}
use Rattle.policy_compile.specs.Asked.{HasStatementsOf, IsAskedBy, SomeStatementOf}
use Rattle.policy_compile.specs.Numbering.{Collects, HasTooMany}
use Rattle.policy_compile.specs.Plans.{Plan, tests_in}
use Rattle.policy_compile.specs.Queries.{HasTooManyPieces, IsQuery}
use Rattle.policy_compile.specs.Sets.{query_plan, set_plan}

-- each test of a set's query is asked by a statement of the set
abbrev pub TestsComeFromElements : Type 0
TestsComeFromElements =
    (schema : Schema) (set : PolicySet) (tests : List Test) → Collects [] (tests_in (set_plan schema set)) tests →
    All (λ t. SomeStatementOf (IsAskedBy schema t) set) tests

-- the same tests are read in both plans, in whatever order
abbrev pub AskTheSameTests : Plan → Plan → Type 0
AskTheSameTests p q = (t : Test) → (Contains (tests_in p) t ↔ Contains (tests_in q) t)

-- there are too many tests, or they have too many pieces, in both plans or in neither
pub record MeetLimitsAlike (p q : Plan) : Type 0 where
  pub tests : HasTooMany [] (tests_in p) ↔ HasTooMany [] (tests_in q)
  pub pieces : HasTooManyPieces p ↔ HasTooManyPieces q

-- plans with the same tests do so
abbrev pub SameTestsMeetLimitsAlike : Type 0
SameTestsMeetLimitsAlike = (p q : Plan) → AskTheSameTests p q → MeetLimitsAlike p q

-- the plan has neither too many tests nor too many pieces
pub record IsWithinLimits (p : Plan) : Type 0 where
  pub tests : ¬ HasTooMany [] (tests_in p)
  pub pieces : ¬ HasTooManyPieces p

-- no query is past a limit
abbrev pub QueriesAreWithinLimits : Type 0
QueriesAreWithinLimits = (p : Plan) (q : Query) → IsQuery p q → IsWithinLimits p

-- a set's query has the same tests as those of the set and a part of it, whichever of the two is asked to allow
pub record AsksNoOther (schema : Schema) (set part : PolicySet) : Type 0 where
  pub first : AskTheSameTests (query_plan schema set part) (set_plan schema set)
  pub second : AskTheSameTests (query_plan schema part set) (set_plan schema set)

abbrev pub PartsAskNoOtherTests : Type 0
PartsAskNoOtherTests =
    (schema : Schema) (set part : PolicySet) → HasStatementsOf set part → AsksNoOther schema set part

-- the limits as numbers: the tests of a query, the pieces of their patterns together, and those of an account
abbrev pub QueryLimits : Type 0
QueryLimits = (MOST_TESTS ≡ 1000) × (MOST_PIECES ≡ 65536) × (ACCOUNT_PIECES ≡ 24)

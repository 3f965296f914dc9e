-- What holds between two tests, and of one, on every valid request.
use Rattle.std.specs.Prelude.{◌≡◌, ℕ, List, Some, slice_get}
use Rattle.policy_model.specs.declared.request.Request.{Request}
use Rattle.policy_model.specs.declared.schema.Schema.{Schema}
use Rattle.policy_model.specs.declared.test.Test.{Test}
use Rattle.policy_model.specs.Requests.{IsValid}
use Rattle.policy_model.specs.Tests.{TestHolds}

-- every valid request that meets the one test meets the other
abbrev pub TestLeads : Schema → Test → Test → Type 0
TestLeads schema one other = (r : Request) → IsValid schema r → TestHolds r one → TestHolds r other

-- no valid request meets both
abbrev pub TestExcludes : Schema → Test → Test → Type 0
TestExcludes schema one other = (r : Request) → IsValid schema r → TestHolds r one → ¬ TestHolds r other

-- every valid request meets the test
abbrev pub AlwaysHolds : Schema → Test → Type 0
AlwaysHolds schema one = (r : Request) → IsValid schema r → TestHolds r one

-- a schema, and tests by their numbers
pub record SchemaTests : Type 0 where
  pub schema : Schema
  pub tests : List Test

-- the same of the tests with these numbers, and nothing where there is no such test
abbrev pub LeadsAt : SchemaTests → ℕ → ℕ → Type 0
LeadsAt of one other =
    (a b : Test) → slice_get of.tests one ≡ Some a → slice_get of.tests other ≡ Some b → TestLeads of.schema a b

abbrev pub ExcludesAt : SchemaTests → ℕ → ℕ → Type 0
ExcludesAt of one other =
    (a b : Test) → slice_get of.tests one ≡ Some a → slice_get of.tests other ≡ Some b → TestExcludes of.schema a b

abbrev pub AlwaysAt : SchemaTests → ℕ → Type 0
AlwaysAt of one = (a : Test) → slice_get of.tests one ≡ Some a → AlwaysHolds of.schema a

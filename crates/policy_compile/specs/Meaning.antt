-- What the tree of a query says where each test is answered as a request answers it.
use Rattle.std.specs.Prelude.{◌≡◌, ◌↔◌, ℕ, List, Bool, Some, slice_get, IsTrue}
use Rattle.policy_model.specs.Tests.{TestHolds}
use Rattle.policy_model.specs.declared.request.Request.{Request}
use Rattle.policy_model.specs.declared.test.Test.{Test}

-- each test has by its number the answer that the request gives it
abbrev pub AnswersAs : (ℕ → Bool) → Request → List Test → Type 0
AnswersAs answers r tests = (n : ℕ) (t : Test) → slice_get tests n ≡ Some t → (IsTrue (answers n) ↔ TestHolds r t)

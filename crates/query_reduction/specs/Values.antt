-- What a reduction keeps of a query.
use Rattle.std.specs.Prelude.{◌≡◌, ℕ, Bool, List}
use Rattle.formula_tree.specs.Trees.{Tree}
use Rattle.formula_tree.specs.Values.{holds}
use Rattle.policy_compile.specs.Meaning.{AnswersAs}
use Rattle.policy_model.specs.Requests.{IsValid}
use Rattle.policy_model.specs.declared.request.Request.{Request}
use Rattle.policy_model.specs.declared.schema.Schema.{Schema}
use Rattle.policy_model.specs.declared.test.Test.{Test}

-- where each test is answered as a valid request answers it, the two trees have one value
abbrev pub HasSameValue : Schema → List Test → Tree → Tree → Type 0
HasSameValue schema tests one other =
    (r : Request) (answers : ℕ → Bool) → IsValid schema r → AnswersAs answers r tests → holds answers one ≡ holds answers other

-- What is known of claims, wherever the tests are answered as a valid request answers them.
use Rattle.std.specs.Prelude.{◌≡◌, ℕ, Bool, List, IsTrue}
use Rattle.formula_tree.specs.Trees.{Tree}
use Rattle.formula_nodes.specs.Claims.{claim_holds}
use Rattle.formula_nodes.specs.declared.claim.Claim.{Claim}
use Rattle.policy_compile.specs.Meaning.{AnswersAs}
use Rattle.policy_model.specs.Requests.{IsValid}
use Rattle.policy_model.specs.declared.request.Request.{Request}
use Rattle.policy_model.specs.declared.schema.Schema.{Schema}
use Rattle.policy_model.specs.declared.test.Test.{Test}
use Rattle.test_relations.specs.Relations.{SchemaTests}

-- both claims are true, or neither
abbrev pub ClaimsAgree : Schema → List Test → List Tree → Claim → Claim → Type 0
ClaimsAgree schema tests trees one other =
    (r : Request) (answers : ℕ → Bool) → IsValid schema r → AnswersAs answers r tests → claim_holds answers trees one ≡ claim_holds answers trees other

-- on the answers of a valid request that make the one claim true the other is true
abbrev pub IsImplied : SchemaTests → List Tree → Claim → Claim → Type 0
IsImplied of trees one other =
    (r : Request) (answers : ℕ → Bool) → IsValid of.schema r → AnswersAs answers r of.tests → IsTrue (claim_holds answers trees one) →
    IsTrue (claim_holds answers trees other)

-- Change queries by the claims of what a set asks.
use Rattle.std.specs.Prelude.{◌≡◌, ◌≤◌, ◌+◌, ◌++◌, ◌↔◌, ℕ, List, length, map, slice_get, slice_index_or, All, Bool, true, false, IsTrue, Some}
use Rattle.std.specs.List.{AllZip}
use Rattle.formula_tree.specs.Trees.{Tree}
use Rattle.formula_tree.specs.Values.{AreBelow, holds}
use Rattle.formula_nodes.specs.Claims.{EachClaimHolds, claim_holds, turned_claim}
use Rattle.formula_nodes.specs.declared.claim.Claim.{Claim}
use Rattle.policy_model.specs.declared.request.Request.{Request}
use Rattle.policy_model.specs.declared.schema.Schema.{Schema}
use Rattle.policy_model.specs.declared.set.PolicySet.{PolicySet}
use Rattle.policy_model.specs.declared.set.StatementName.{StatementName}
use Rattle.policy_model.specs.declared.test.Test.{Test}
use Rattle.policy_model.specs.Requests.{IsValid}
use Rattle.policy_model.specs.Sets.{Allows}
use Rattle.policy_compile.specs.Meaning.{AnswersAs}
use Rattle.policy_compile.specs.declared.outcome.Query.{Query}
use Rattle.policy_compile.specs.Queries.{IsQuery}
use Rattle.policy_compile.specs.Sets.{set_plan, set_plans}
use Rattle.test_relations.specs.Relations.{SchemaTests}
use Rattle.set_questions.specs.Idle.{Differ}
use Rattle.set_questions.specs.Removal.{without_item, without_statement}
use Rattle.set_questions.specs.Requirements.{ArePlanClaims, plans_of, required_names, set_requirements}

-- a schema and a set
pub record SchemaSet : Type 0 where
  pub schema : Schema
  pub set : PolicySet

-- the claims of a set's statements and of what the set asks, over trees that ask no other tests
pub record AreClaimsOfSet (schema : Schema) (set : PolicySet) (tests : List Test) (trees : List Tree) (claims : List (List Claim)) (wholes : List Claim) : Type 0 where
  pub below : All (AreBelow (length tests)) trees
  pub of_statements : AllZip (λ q cs. ArePlanClaims tests trees (plans_of schema q.named) cs) (set_requirements set) claims
  pub of_wholes : ArePlanClaims tests trees (set_plans schema set) wholes

-- the names and the claims of the set's statements, with its query, and what is known of the query's tests
pub record AreChanges (schema : Schema) (set : PolicySet) (query : Query) (of : SchemaTests) (trees : List Tree) (names : List (List StatementName)) (claims : List (List Claim)) (wholes : List Claim) : Type 0 where
  pub asked : IsQuery (set_plan schema set) query
  pub schema_is : of.schema ≡ schema
  pub tests_are : of.tests ≡ query.tests
  pub named : names ≡ required_names set
  pub claimed : AreClaimsOfSet schema set query.tests trees claims wholes

-- the name is the one at this index in the list at this place
abbrev pub IsListedAt : List (List StatementName) → StatementName → ℕ → ℕ → Type 0
IsListedAt names name place index =
    (ns : List StatementName) × (slice_get names place ≡ Some ns) × (slice_get ns index ≡ Some name)

-- the opposites of the claims but one, and all wholes but one
abbrev pub other_claims : List Claim → List Claim → ℕ → ℕ → List Claim
other_claims own wholes place index =
    map (turned_claim false) (without_item (index + 1) own) ++ map (turned_claim true) (without_item (place + 1) wholes)

-- on the answers of a valid request the claim is true where the one and each of the others are
abbrev pub IsJointClaim : SchemaTests → List Tree → Claim → List Claim → Claim → Type 0
IsJointClaim of trees one others claim =
    (r : Request) (answers : ℕ → Bool) → IsValid of.schema r → AnswersAs answers r of.tests →
    (IsTrue (claim_holds answers trees claim) ↔ (IsTrue (claim_holds answers trees one) × EachClaimHolds answers trees others))

-- at this request the value tells of the use of the statement
pub record TellsUse (schema : Schema) (set : PolicySet) (name : StatementName) (r : Request) (value : Bool) : Type 0 where
  pub used : IsTrue value → Differ schema set (without_statement set name) r
  pub idle : value ≡ false → (Allows schema set r ↔ Allows schema (without_statement set name) r)

-- so does the tree's value, at each valid request
pub record IsUseTree (schema : Schema) (set : PolicySet) (name : StatementName) (tests : List Test) (tree : Tree) : Type 0 where
  pub below : AreBelow (length tests) tree
  pub tells : (r : Request) (answers : ℕ → Bool) → IsValid schema r → AnswersAs answers r tests →
      TellsUse schema set name r (holds answers tree)

-- The tests that a claim denies, and what is known where they fail.
use Rattle.std.specs.Prelude.{◌≡◌, ℕ, Bool, List, IsTrue, Some, false, slice_get, true}
use Rattle.formula_tree.specs.Trees.{Tree}
use Rattle.formula_nodes.specs.Claims.{EachClaimHolds, SomeClaimFails, claim_holds}
use Rattle.formula_nodes.specs.declared.claim.Claim.{Claim}
use Rattle.query_reduction.specs.Reducers.{IsImplied}
use Rattle.test_relations.specs.Relations.{SchemaTests}

-- the node doesn't hold there, if this says so
abbrev pub IsDeniedNode : SchemaTests → List Tree → Claim → ℕ → Bool → Type 0
IsDeniedNode of trees one n denied = IsTrue denied → IsImplied of trees one (record { node = n; holds = false })

abbrev pub AreDenied : SchemaTests → List Tree → Claim → List Bool → Type 0
AreDenied of trees one denied = (n : ℕ) → slice_get denied n ≡ Some true → IsImplied of trees one (record { node = n; holds = false })

-- the claim is that a denied node doesn't hold
pub record IsDeniedClaim (denied : List Bool) (claim : Claim) : Type 0 where
  pub fails : claim.holds ≡ false
  pub there : slice_get denied claim.node ≡ Some true

-- the denied nodes don't hold
abbrev pub DeniedFail : (ℕ → Bool) → List Tree → List Bool → Type 0
DeniedFail answers trees denied = (n : ℕ) → slice_get denied n ≡ Some true → IsTrue (claim_holds answers trees (record { node = n; holds = false }))

-- where they don't, the claim is true; each of these is; or one of these isn't
abbrev pub IsTrueThere : List Tree → List Bool → Claim → Type 0
IsTrueThere trees denied claim = (answers : ℕ → Bool) → DeniedFail answers trees denied → IsTrue (claim_holds answers trees claim)

abbrev pub AreTrueThere : List Tree → List Bool → List Claim → Type 0
AreTrueThere trees denied claims = (answers : ℕ → Bool) → DeniedFail answers trees denied → EachClaimHolds answers trees claims

abbrev pub HasFalseClaim : List Tree → List Bool → List Claim → Type 0
HasFalseClaim trees denied claims = (answers : ℕ → Bool) → DeniedFail answers trees denied → SomeClaimFails answers trees claims

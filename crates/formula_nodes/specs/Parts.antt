-- What a claim comes to, one level down.
use Rattle.std.specs.Prelude.{◌≡◌, ◌<◌, ◌↔◌, ℕ, Bool, List, true, false, All, IsTrue}
use Rattle.std.specs.Borrow.{Bor}
use Rattle.formula_tree.specs.Trees.{Tree}
use Rattle.formula_tree.specs.Values.{AreBelow}
use Rattle.formula_nodes.specs.declared.claim.Claim.{Claim}
use Rattle.formula_nodes.specs.declared.part.Part.{Part}
use Rattle.formula_nodes.specs.declared.part.Part.TheVariants as part
use Rattle.formula_nodes.specs.Claims.{AreClaimsOf, EachClaimHolds, SomeClaimFails, as_claimed, claim_holds}

-- the claims are of trees before the claim's own
abbrev pub AreInside : List Tree → Claim → List Claim → Type 0
AreInside trees claim inner = AreClaimsOf trees inner × All (λ c. c.node < claim.node) inner

-- the claim is about the test, which is one of those that the trees ask
abbrev pub IsTestClaim : List Tree → Claim → ℕ → Type 0
IsTestClaim trees claim n =
    ((answers : ℕ → Bool) → claim_holds answers trees claim ≡ as_claimed claim.holds (answers n)) × ((t : ℕ) → All (AreBelow t) trees → n < t)

-- what is inside of a claim: a test, claims that hold where it does, or claims of which one fails where it holds
abbrev pub IsPartOfClaim : List Tree → Claim → Part → Type 0
IsPartOfClaim trees claim (part.Test n) = IsTestClaim trees claim n
IsPartOfClaim trees claim (part.All inner) =
    AreInside trees claim inner.now × ((answers : ℕ → Bool) → (IsTrue (claim_holds answers trees claim) ↔ EachClaimHolds answers trees inner.now))
IsPartOfClaim trees claim (part.OneOf inner) =
    AreInside trees claim inner.now × ((answers : ℕ → Bool) → (IsTrue (claim_holds answers trees claim) ↔ SomeClaimFails answers trees inner.now))

-- a conjunction as a claim has it
abbrev pub joint_part : Bool → Bor (List Claim) → Part
joint_part true inner = part.All inner
joint_part false inner = part.OneOf inner

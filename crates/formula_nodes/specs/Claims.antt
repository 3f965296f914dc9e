-- What claims on trees by their numbers say.
use Rattle.std.specs.Prelude.{◌≡◌, ◌<◌, ◌++◌, ◌↔◌, ℕ, Bool, List, true, false, length, slice_index_or, All, Any, IsTrue}
use Rattle.std.specs.Prelude.{not as opposite}
use Rattle.formula_tree.specs.Trees.{Tree, yes}
use Rattle.formula_tree.specs.Values.{AreBelow, holds}
use Rattle.formula_nodes.specs.declared.claim.Claim.{Claim}

-- the tree of this number
abbrev pub numbered_tree : List Tree → ℕ → Tree
numbered_tree trees n = slice_index_or trees n yes

-- a value as a claim has it: itself, or its opposite where the claim is that the node doesn't hold
abbrev pub as_claimed : Bool → Bool → Bool
as_claimed true value = value
as_claimed false value = opposite value

-- the claim itself, or its opposite
abbrev pub turned_claim : Bool → Claim → Claim
turned_claim true claim = claim
turned_claim false claim = record { node = claim.node; holds = opposite claim.holds }

-- whether a claim is true where each test has an answer
abbrev pub claim_holds : (ℕ → Bool) → List Tree → Claim → Bool
claim_holds answers trees claim = as_claimed claim.holds (holds answers (numbered_tree trees claim.node))

abbrev pub EachClaimHolds : (ℕ → Bool) → List Tree → List Claim → Type 0
EachClaimHolds answers trees claims = All (λ c. IsTrue (claim_holds answers trees c)) claims

abbrev pub SomeClaimFails : (ℕ → Bool) → List Tree → List Claim → Type 0
SomeClaimFails answers trees claims = Any (λ c. claim_holds answers trees c ≡ false) claims

-- the claims' nodes have trees
abbrev pub IsClaimOf : List Tree → Claim → Type 0
IsClaimOf trees claim = claim.node < length trees

abbrev pub AreClaimsOf : List Tree → List Claim → Type 0
AreClaimsOf trees claims = All (IsClaimOf trees) claims

-- the trees, and more behind them
pub record Grows (old new : List Tree) : Type 0 where
  pub rest : List Tree
  pub is : new ≡ old ++ rest

-- the new trees ask no test but those of the old ones, or of the tree besides
abbrev pub AddsNoTest : List Tree → List Tree → Type 0
AddsNoTest old new = (t : ℕ) → All (AreBelow t) old → All (AreBelow t) new

abbrev pub AddsTestsOf : Tree → List Tree → List Tree → Type 0
AddsTestsOf tree old new = (t : ℕ) → All (AreBelow t) old → AreBelow t tree → All (AreBelow t) new

-- the claim has the tree's value
abbrev pub IsClaimFor : Tree → List Tree → Claim → Type 0
IsClaimFor tree trees claim = IsClaimOf trees claim × ((answers : ℕ → Bool) → claim_holds answers trees claim ≡ holds answers tree)

-- the claim is true where each of these is
abbrev pub IsClaimOfEach : List Claim → List Tree → Claim → Type 0
IsClaimOfEach claims trees claim =
    IsClaimOf trees claim × ((answers : ℕ → Bool) → (IsTrue (claim_holds answers trees claim) ↔ EachClaimHolds answers trees claims))

-- the tree has the claim's value, and asks no other tests
abbrev pub IsTreeFor : Claim → List Tree → Tree → Type 0
IsTreeFor claim trees tree =
    ((answers : ℕ → Bool) → holds answers tree ≡ claim_holds answers trees claim) × ((t : ℕ) → All (AreBelow t) trees → AreBelow t tree)

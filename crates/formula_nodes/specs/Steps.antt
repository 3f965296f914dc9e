-- What the steps of numbering leave.
use Rattle.std.specs.Prelude.{◌≡◌, ◌<◌, ◌++◌, ◌∷◌, ◌⊎◌, ◌↔◌, ℕ, Bool, List, [], All, Contains, IsTrue, Some, slice_get, true, false}
use Rattle.std.specs.List.{AllZip}
use Rattle.formula_tree.specs.Trees.{Tree, all, of_list, one_of}
use Rattle.formula_nodes.specs.declared.claim.Claim.{Claim}
use Rattle.formula_nodes.specs.declared.nodes.Node.{Node}
use Rattle.formula_nodes.specs.Claims.{AreClaimsOf, EachClaimHolds, IsClaimFor, IsTreeFor, claim_holds, turned_claim}
use Rattle.formula_nodes.specs.Standing.{inner_claims, turned_tree}

-- the nodes, at most with this one behind them
abbrev pub IsWithNode : List Node → List Node → Node → Type 0
IsWithNode old new node = (new ≡ old) ⊎ (new ≡ old ++ node ∷ [])

-- the claim is that this node holds, which is over earlier ones
pub record IsNodeClaim (nodes : List Node) (node : Node) (claim : Claim) : Type 0 where
  pub holds : claim.holds ≡ true
  pub at : slice_get nodes claim.node ≡ Some node
  pub earlier : All (λ c. c.node < claim.node) (inner_claims node)

-- the same claims, in whatever order and however often
abbrev pub HasSameClaims : List Claim → List Claim → Type 0
HasSameClaims old new = (c : Claim) → (Contains old c ↔ Contains new c)

-- these claims hold together where those do
abbrev pub AreEquivalentClaims : List Tree → List Claim → List Claim → Type 0
AreEquivalentClaims trees claims same = AreClaimsOf trees same × ((answers : ℕ → Bool) → (EachClaimHolds answers trees same ↔ EachClaimHolds answers trees claims))

-- the new claims hold together where the old ones and this one do
abbrev pub SaysAlso : List Tree → Claim → List Claim → List Claim → Type 0
SaysAlso trees claim old new =
    (AreClaimsOf trees old → AreClaimsOf trees new) ×
    ((answers : ℕ → Bool) → (EachClaimHolds answers trees new ↔ (EachClaimHolds answers trees old × IsTrue (claim_holds answers trees claim))))

-- the claims, one for each tree or where `every` is false for its opposite
abbrev pub AreClaimsFor : Bool → List Tree → List Tree → List Claim → Type 0
AreClaimsFor every inner trees claims = AllZip (λ t c. IsClaimFor (turned_tree every t) trees c) inner claims

-- that each of these holds, or that some does
abbrev pub joined_tree : Bool → List Tree → Tree
joined_tree true inner = all (of_list inner)
joined_tree false inner = one_of (of_list inner)

-- wherever there is a claim for each of some trees, this is one for all of them together
abbrev pub IsClaimForJoined : Bool → List Tree → List Tree → List Claim → Claim → Type 0
IsClaimForJoined every old new claims claim = (inner : List Tree) → AreClaimsFor every inner old claims → IsClaimFor (joined_tree every inner) new claim

-- a tree for each claim, or where `every` is false for its opposite
abbrev pub AreTreesFor : Bool → List Claim → List Tree → List Tree → Type 0
AreTreesFor every claims trees inner = AllZip (λ c t. IsTreeFor (turned_claim every c) trees t) claims inner

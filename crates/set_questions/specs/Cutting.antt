-- What is left of claims where denied nodes fail.
use Rattle.std.specs.Prelude.{◌≡◌, ◌↔◌, ℕ, Bool, List, IsTrue, true}
use Rattle.formula_tree.specs.Trees.{Tree}
use Rattle.formula_nodes.specs.Claims.{AreClaimsOf, EachClaimHolds, IsClaimOf, claim_holds}
use Rattle.formula_nodes.specs.Parts.{AreInside}
use Rattle.formula_nodes.specs.declared.claim.Claim.{Claim}
use Rattle.set_questions.specs.Excluding.{DeniedFail}

-- where the denied nodes fail both claims are true, or neither is
abbrev pub IsLeftOf : List Tree → List Bool → Claim → Claim → Type 0
IsLeftOf trees denied claim less =
    IsClaimOf trees less × ((answers : ℕ → Bool) → DeniedFail answers trees denied → claim_holds answers trees claim ≡ claim_holds answers trees less)

-- where the denied nodes fail all claims of the one list are true where all of the other are
abbrev pub AreLeftOf : List Tree → List Bool → List Claim → List Claim → Type 0
AreLeftOf trees denied claims left =
    AreClaimsOf trees left × ((answers : ℕ → Bool) → DeniedFail answers trees denied → (EachClaimHolds answers trees claims ↔ EachClaimHolds answers trees left))

-- that the node holds
abbrev pub node_claim : ℕ → Claim
node_claim n = record { node = n; holds = true }

-- the node holds where each of these claims on earlier nodes does
abbrev pub IsConjunctionAt : List Tree → ℕ → List Claim → Type 0
IsConjunctionAt trees n inner =
    AreInside trees (node_claim n) inner × ((answers : ℕ → Bool) → (IsTrue (claim_holds answers trees (node_claim n)) ↔ EachClaimHolds answers trees inner))

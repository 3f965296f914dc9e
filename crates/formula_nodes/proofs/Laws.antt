-- What more trees leave.
use Rattle.std.proofs.Common.{◌≡◌, ◌++◌, ℕ, List, [], Bool, length, get_or, sym, ap, ◌∙◌, arith}
use Rattle.std.proofs.lemmas.List.{append-nil, append_assoc, get_or_append_left, length-append}
use Rattle.formula_tree.specs.Trees.{Tree, yes}
use Rattle.formula_tree.specs.Values.{holds}
use Rattle.formula_nodes.specs.Claims.{AreClaimsOf, EachClaimHolds, Grows, IsClaimFor, IsClaimOf, as_claimed, claim_holds}
use Rattle.formula_nodes.specs.declared.claim.Claim.{Claim}

pub grows-none : (trees : List Tree) → Grows trees trees
grows-none trees = record { rest = []; is = sym (append-nil trees) }

pub grows-then : (old mid new : List Tree) → Grows old mid → Grows mid new → Grows old new
grows-then old mid new a b = record { rest = a.rest ++ b.rest; is = b.is ∙ ap (λ (ts : List Tree). ts ++ b.rest) a.is ∙ append_assoc old a.rest b.rest }

-- a claim stays in range, and keeps its value
pub stays-claim : (old new : List Tree) (c : Claim) → Grows old new → IsClaimOf old c → IsClaimOf new c
stays-claim old new c grows there = omega (arith, there, ap (λ (ts : List Tree). length ts) grows.is, length-append old grows.rest)

pub keeps-value : (old new : List Tree) (c : Claim) (answers : ℕ → Bool) → Grows old new → IsClaimOf old c → claim_holds answers new c ≡ claim_holds answers old c
keeps-value old new c answers grows there =
    ap (λ (t : Tree). as_claimed c.holds (holds answers t)) (ap (λ (ts : List Tree). get_or ts c.node yes) grows.is ∙ get_or_append_left old grows.rest yes c.node there)

-- and so do several
pub stay-claims : (old new : List Tree) (cs : List Claim) → Grows old new → AreClaimsOf old cs → AreClaimsOf new cs
stay-claims old new cs grows there k d lt = stays-claim old new (get_or cs k d) grows (there k d lt)

pub keep-values : (old new : List Tree) (cs : List Claim) (answers : ℕ → Bool) → Grows old new → AreClaimsOf old cs → EachClaimHolds answers old cs → EachClaimHolds answers new cs
keep-values old new cs answers grows there each k d lt = keeps-value old new (get_or cs k d) answers grows (there k d lt) ∙ each k d lt

pub had-values : (old new : List Tree) (cs : List Claim) (answers : ℕ → Bool) → Grows old new → AreClaimsOf old cs → EachClaimHolds answers new cs → EachClaimHolds answers old cs
had-values old new cs answers grows there each k d lt = sym (keeps-value old new (get_or cs k d) answers grows (there k d lt)) ∙ each k d lt

-- and a claim for a tree is one among more trees
pub stays-for : (old new : List Tree) (t : Tree) (c : Claim) → Grows old new → IsClaimFor t old c → IsClaimFor t new c
stays-for old new t c grows is = (stays-claim old new c grows is.0, λ answers. keeps-value old new c answers grows is.0 ∙ is.1 answers)

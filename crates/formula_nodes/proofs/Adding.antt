-- Nodes with one more.
use Rattle.std.proofs.Common.{◌≡◌, ◌<◌, ◌++◌, ◌∷◌, ℕ, List, [], zero, suc, Bool, true, false, cond, Some, slice_get, length, map, All, Result, Ok, Err, refl, sym, ap, ◌∙◌, subst, inl, inr, ◌⊎◌}
use Rattle.std.specs.Prelude.{IfOk}
use Rattle.std.proofs.lemmas.List.{append-nil}
use Rattle.std.proofs.lemmas.List.Elements.{All-head, All-push, All-tail}
use Rattle.std.proofs.lemmas.Option.{slice_get_within}
use Rattle.formula_tree.specs.Trees.{Tree, of_list, test, yes}
use Rattle.formula_tree.specs.Values.{AreBelow, EachBelow, holds}
use Rattle.formula_nodes.specs.Claims.{AddsNoTest, AddsTestsOf, AreClaimsOf, Grows, IsClaimFor, IsClaimOf, IsClaimOfEach, as_claimed, numbered_tree}
use Rattle.formula_nodes.specs.Standing.{AreOverEarlier, claim_tree, inner_claims, next_tree, node_trees, turned_tree}
use Rattle.formula_nodes.specs.Steps.{IsNodeClaim, IsWithNode}
use Rattle.formula_nodes.specs.declared.claim.Claim.{Claim}
use Rattle.formula_nodes.specs.declared.nodes.Node.{Node}
use Rattle.formula_nodes.specs.declared.nodes.Node.TheVariants as node
use Rattle.formula_nodes.specs.contracts.nodes.NodePartialEq.TheImpl as same
use Rattle.formula_nodes.proofs.Same.{nodes-same}
use Rattle.formula_nodes.proofs.Standing.{all-each, behind-append, each-all, length-trees, own-tree, stands-at}

-- ---- the list of nodes

get-push : (xs : List Node) (i : ℕ) (y x : Node) → slice_get (xs ++ y ∷ []) i ≡ Some x → (slice_get xs i ≡ Some x) ⊎ ((i ≡ length xs) × (y ≡ x))
get-push [] zero y x e = inr (refl, cc)
get-push [] (suc i) y x e = absurd (cc)
get-push (z ∷ xs) zero y x e = inl e
get-push (z ∷ xs) (suc i) y x e = elim (get-push xs i y x e) [ inl at ↦ inl at | inr last ↦ inr (ap suc last.0, last.1) ]

pub with-inserted : (keep : Bool) (old new : List Node) (n : Node) → new ≡ cond keep old (old ++ n ∷ []) → IsWithNode old new n
with-inserted true old new n e = inl e
with-inserted false old new n e = inr e

over-push : (old : List Node) (n : Node) → AreOverEarlier old → All (λ c. c.node < length old) (inner_claims n) → AreOverEarlier (old ++ n ∷ [])
over-push old n over below i m there = elim (get-push old i n m there) [
  | inl before ↦ over i m before
  | inr last ↦ subst (λ (x : Node). All (λ (c : Claim). c.node < i) (inner_claims x)) last.1 (subst (λ (k : ℕ). All (λ (c : Claim). c.node < k) (inner_claims n)) (sym last.0) below)
]

pub over-with : (old new : List Node) (n : Node) → IsWithNode old new n → AreOverEarlier old → All (λ c. c.node < length old) (inner_claims n) → AreOverEarlier new
over-with old new n (inl same) over below = subst AreOverEarlier (sym same) over
over-with old new n (inr longer) over below = subst AreOverEarlier (sym longer) (over-push old n over below)

-- ---- their trees

one-more-tree : (old : List Node) (n : Node) → node_trees (old ++ n ∷ []) ≡ node_trees old ++ next_tree (node_trees old) n ∷ []
one-more-tree old n = behind-append [] old (n ∷ [])

pub grows-with : (old new : List Node) (n : Node) → IsWithNode old new n → Grows (node_trees old) (node_trees new)
grows-with old new n (inl same) = record { rest = []; is = ap node_trees same ∙ sym (append-nil (node_trees old)) }
grows-with old new n (inr longer) = record { rest = next_tree (node_trees old) n ∷ []; is = ap node_trees longer ∙ one-more-tree old n }

pub below-with : (old new : List Node) (n : Node) (t : ℕ) → IsWithNode old new n → All (AreBelow t) (node_trees old) → AreBelow t (next_tree (node_trees old) n) → All (AreBelow t) (node_trees new)
below-with old new n t (inl same) below own = subst (λ (ns : List Node). All (AreBelow t) (node_trees ns)) (sym same) below
below-with old new n t (inr longer) below own =
    subst (All (AreBelow t)) (sym (ap node_trees longer ∙ one-more-tree old n)) (All-push (AreBelow t) (node_trees old) (next_tree (node_trees old) n) below own)

turned-below : (t : ℕ) (b : Bool) (tree : Tree) → AreBelow t tree → AreBelow t (turned_tree b tree)
turned-below t true tree below = below
turned-below t false tree below = below

claims-below : (t : ℕ) (trees : List Tree) (cs : List Claim) → All (AreBelow t) trees → AreClaimsOf trees cs → EachBelow t (of_list (map (claim_tree trees) cs))
claims-below t trees [] below there = tt
claims-below t trees (c ∷ cs) below there =
    (turned-below t c.holds (numbered_tree trees c.node) (below c.node yes (All-head (IsClaimOf trees) c cs there)), claims-below t trees cs below (All-tail (IsClaimOf trees) c cs there))

pub adds-test : (old new : List Node) (n : ℕ) → IsWithNode old new (node.Test n) → AddsTestsOf (test n) (node_trees old) (node_trees new)
adds-test old new n with t below own = below-with old new (node.Test n) t with below own

pub adds-none : (old new : List Node) (cs : List Claim) → IsWithNode old new (node.All cs) → AreClaimsOf (node_trees old) cs → AddsNoTest (node_trees old) (node_trees new)
adds-none old new cs with there t below = below-with old new (node.All cs) t with below (claims-below t (node_trees old) cs below there)

-- ---- the claims

-- the node that was looked for, by the one that is there
pub put-at : (nodes : List Node) (i : ℕ) (n had : Node) → slice_get nodes i ≡ Some had → same.eq-value.it n had ≡ true → slice_get nodes i ≡ Some n
put-at nodes i n had at equal = at ∙ ap (λ (m : Node). Some m) (sym (nodes-same n had equal))

pub made-claim : {E : Type 0} (r : Result Claim E) (nodes : List Node) (n : Node) (i : ℕ) → slice_get nodes i ≡ Some n → All (λ c. c.node < i) (inner_claims n) → IfOk r (λ c. (c.node ≡ i) × (c.holds ≡ true)) → IfOk r (IsNodeClaim nodes n)
made-claim (Err e) nodes n i at earlier is = tt
made-claim (Ok c) nodes n i at earlier is = record {
  holds = is.1;
  at = subst (λ (k : ℕ). slice_get nodes k ≡ Some n) (sym is.0) at;
  earlier = subst (λ (k : ℕ). All (λ (d : Claim). d.node < k) (inner_claims n)) (sym is.0) earlier;
}

pub claim-within : (nodes : List Node) (n : Node) (c : Claim) → IsNodeClaim nodes n c → IsClaimOf (node_trees nodes) c
claim-within nodes n c is = rw (length-trees nodes) (slice_get_within nodes c.node n is.at)

pub test-claim : {E : Type 0} (r : Result Claim E) (nodes : List Node) (n : ℕ) → IfOk r (IsNodeClaim nodes (node.Test n)) → IfOk r (IsClaimFor (test n) (node_trees nodes))
test-claim (Err e) nodes n is = tt
test-claim (Ok c) nodes n is =
    let own = own-tree (node_trees nodes) c.node (node.Test n) (stands-at nodes c.node (node.Test n) is.at) in (
      claim-within nodes (node.Test n) c is,
      λ answers. ap (λ (b : Bool). as_claimed b (holds answers (numbered_tree (node_trees nodes) c.node))) is.holds ∙ ap (λ (t : Tree). holds answers t) own,
    )

pub all-claim : {E : Type 0} (r : Result Claim E) (nodes : List Node) (cs : List Claim) → IfOk r (IsNodeClaim nodes (node.All cs)) → IfOk r (IsClaimOfEach cs (node_trees nodes))
all-claim (Err e) nodes cs is = tt
all-claim (Ok c) nodes cs is =
    let trees = node_trees nodes in
    let at = stands-at nodes c.node (node.All cs) is.at in (
      claim-within nodes (node.All cs) c is,
      λ answers. (
        λ h. all-each answers trees c.node cs at is.earlier (subst (λ (b : Bool). as_claimed b (holds answers (numbered_tree trees c.node)) ≡ true) is.holds h),
        λ each. subst (λ (b : Bool). as_claimed b (holds answers (numbered_tree trees c.node)) ≡ true) (sym is.holds) (each-all answers trees c.node cs at is.earlier each),
      ),
    )

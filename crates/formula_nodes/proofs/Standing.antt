-- The trees of nodes, number by number.
use Rattle.std.proofs.Common.{◌≡◌, ◌<◌, ◌+◌, ◌++◌, ◌∷◌, ℕ, List, [], Bool, true, false, zero, suc, Some, slice_get, length, map, get_or, All, refl, sym, ap, ◌∙◌, subst, inl, inr, arith}
use Rattle.std.specs.Prelude.{Any, IsTrue}
use Rattle.std.specs.Borrow.{Bor}
use Rattle.std.proofs.lemmas.Bool.{and_cases, and_from, and_parts, cases_Bool, not-true, not_from_false}
use Rattle.std.proofs.lemmas.List.{append-nil, append_assoc, get_or_append_left, get_or_at, length-append}
use Rattle.std.proofs.lemmas.List.Elements.{All-cons, All-head, All-nil, All-tail}
use Rattle.std.proofs.lemmas.Option.{slice_get-get_or, slice_get_within}
use Rattle.formula_tree.specs.Trees.{Tree, of_list, yes}
use Rattle.formula_tree.specs.Values.{AreBelow, each_holds, holds}
use Rattle.formula_nodes.specs.Claims.{AreClaimsOf, EachClaimHolds, Grows, IsClaimOf, SomeClaimFails, as_claimed, claim_holds, numbered_tree}
use Rattle.formula_nodes.specs.Parts.{IsPartOfClaim, joint_part}
use Rattle.formula_nodes.specs.Standing.{AreOverEarlier, claim_tree, next_tree, node_trees, trees_behind, turned_tree}
use Rattle.formula_nodes.specs.declared.claim.Claim.{Claim}
use Rattle.formula_nodes.specs.declared.nodes.Node.{Node}
use Rattle.formula_nodes.specs.declared.nodes.Node.TheVariants as node
use Rattle.formula_nodes.specs.declared.part.Part.{Part}
use Rattle.formula_nodes.specs.declared.part.Part.TheVariants as part

-- ---- one tree for each node

pub behind-append : (before : List Tree) (ns ms : List Node) → trees_behind before (ns ++ ms) ≡ trees_behind (trees_behind before ns) ms
behind-append before [] ms = refl
behind-append before (n ∷ ns) ms = behind-append (before ++ next_tree before n ∷ []) ns ms

length-behind : (before : List Tree) (ns : List Node) → length (trees_behind before ns) ≡ length before + length ns
length-behind before [] = omega arith
length-behind before (n ∷ ns) = omega (arith, length-behind (before ++ next_tree before n ∷ []) ns, length-append before (next_tree before n ∷ []))

pub length-trees : (ns : List Node) → length (node_trees ns) ≡ length ns
length-trees ns = omega (arith, length-behind [] ns)

pub behind-grows : (before : List Tree) (ns : List Node) → Grows before (trees_behind before ns)
behind-grows before [] = record { rest = []; is = sym (append-nil before) }
behind-grows before (n ∷ ns) =
    let more = behind-grows (before ++ next_tree before n ∷ []) ns in
    record { rest = next_tree before n ∷ more.rest; is = more.is ∙ append_assoc before (next_tree before n ∷ []) more.rest }

-- the trees before a node's, then its own by these
pub record StandsAt (trees : List Tree) (i : ℕ) (n : Node) : Type 0 where
  pub front : List Tree
  pub rest : List Tree
  pub long : length front ≡ i
  pub is : trees ≡ front ++ next_tree front n ∷ rest

stands-behind : (before : List Tree) (ns : List Node) (i : ℕ) (n : Node) → slice_get ns i ≡ Some n → StandsAt (trees_behind before ns) (length before + i) n
stands-behind before [] i n e = absurd (cc)
stands-behind before (m ∷ ns) zero n e =
    let same : m ≡ n = cc in
    let more = behind-grows (before ++ next_tree before m ∷ []) ns in
    let whole : trees_behind before (m ∷ ns) ≡ before ++ next_tree before m ∷ more.rest = more.is ∙ append_assoc before (next_tree before m ∷ []) more.rest in
    record {
      front = before;
      rest = more.rest;
      long = omega arith;
      is = subst (λ (x : Node). trees_behind before (m ∷ ns) ≡ before ++ next_tree before x ∷ more.rest) same whole;
    }
stands-behind before (m ∷ ns) (suc i) n e =
    let longer = before ++ next_tree before m ∷ [] in
    let later = stands-behind longer ns i n e in
    let long : length longer ≡ length before + 1 = length-append before (next_tree before m ∷ []) in
    record { front = later.front; rest = later.rest; long = omega (arith, later.long, long); is = later.is }

pub stands-at : (ns : List Node) (i : ℕ) (n : Node) → slice_get ns i ≡ Some n → StandsAt (node_trees ns) i n
stands-at ns i n e = let at = stands-behind [] ns i n e in record { front = at.front; rest = at.rest; long = omega (arith, at.long); is = at.is }

pub own-tree : (trees : List Tree) (i : ℕ) (n : Node) (at : StandsAt trees i n) → numbered_tree trees i ≡ next_tree at.front n
own-tree trees i n at = ap (λ (ts : List Tree). get_or ts i yes) at.is ∙ get_or_at at.front (next_tree at.front n) at.rest yes i at.long

earlier-tree : (trees : List Tree) (i k : ℕ) (n : Node) (at : StandsAt trees i n) → k < i → numbered_tree trees k ≡ numbered_tree at.front k
earlier-tree trees i k n at lt = ap (λ (ts : List Tree). get_or ts k yes) at.is ∙ get_or_append_left at.front (next_tree at.front n ∷ at.rest) yes k (omega (arith, at.long))

-- ---- conjunctions

pub turned-holds : (answers : ℕ → Bool) (b : Bool) (t : Tree) → holds answers (turned_tree b t) ≡ as_claimed b (holds answers t)
turned-holds answers true t = refl
turned-holds answers false t = refl

pub claim-tree-holds : (answers : ℕ → Bool) (trees : List Tree) (c : Claim) → holds answers (claim_tree trees c) ≡ claim_holds answers trees c
claim-tree-holds answers trees c = turned-holds answers c.holds (numbered_tree trees c.node)

-- the value of the conjunction of claims
conjunction : (ℕ → Bool) → List Tree → List Claim → Bool
conjunction answers trees cs = each_holds answers (of_list (map (claim_tree trees) cs))

pub each-from : (answers : ℕ → Bool) (trees : List Tree) (cs : List Claim) → EachClaimHolds answers trees cs → each_holds answers (of_list (map (claim_tree trees) cs)) ≡ true
each-from answers trees [] each = refl
each-from answers trees (c ∷ cs) each =
    let P = λ (d : Claim). IsTrue (claim_holds answers trees d) in
    and_from (holds answers (claim_tree trees c)) (each_holds answers (of_list (map (claim_tree trees) cs))) (claim-tree-holds answers trees c ∙ All-head P c cs each) (each-from answers trees cs (All-tail P c cs each))

pub each-to : (answers : ℕ → Bool) (trees : List Tree) (cs : List Claim) → each_holds answers (of_list (map (claim_tree trees) cs)) ≡ true → EachClaimHolds answers trees cs
each-to answers trees [] e = All-nil (λ (d : Claim). IsTrue (claim_holds answers trees d))
each-to answers trees (c ∷ cs) e =
    let P = λ (d : Claim). IsTrue (claim_holds answers trees d) in
    let parts = and_parts (holds answers (claim_tree trees c)) (each_holds answers (of_list (map (claim_tree trees) cs))) e in
    All-cons P c cs (sym (claim-tree-holds answers trees c) ∙ parts.0) (each-to answers trees cs parts.1)

any-later : (P : Claim → Type 0) (c : Claim) (cs : List Claim) → Any P cs → Any P (c ∷ cs)
any-later P c cs some = (suc some.0, some.1, omega (arith, some.2), some.3, some.4)

any-here : (P : Claim → Type 0) (c : Claim) (cs : List Claim) → P c → Any P (c ∷ cs)
any-here P c cs p = (0, c, omega arith, refl, p)

pub some-from : (answers : ℕ → Bool) (trees : List Tree) (cs : List Claim) → each_holds answers (of_list (map (claim_tree trees) cs)) ≡ false → SomeClaimFails answers trees cs
some-from answers trees [] e = absurd (cc)
some-from answers trees (c ∷ cs) e =
    let P = λ (d : Claim). claim_holds answers trees d ≡ false in
    elim (and_cases (holds answers (claim_tree trees c)) (each_holds answers (of_list (map (claim_tree trees) cs))) e) [
      | inl a ↦ any-here P c cs (sym (claim-tree-holds answers trees c) ∙ a)
      | inr b ↦ any-later P c cs (some-from answers trees cs b)
    ]

-- a claim that fails isn't among those that hold
fails-not : (answers : ℕ → Bool) (trees : List Tree) (cs : List Claim) → EachClaimHolds answers trees cs → SomeClaimFails answers trees cs → ⊥
fails-not answers trees cs each some =
    let held : claim_holds answers trees (get_or cs some.0 some.1) ≡ true = each some.0 some.1 some.2 in
    let same = ap (λ (c : Claim). claim_holds answers trees c) some.3 in
    let failed = some.4 in
    absurd (cc)

pub some-to : (answers : ℕ → Bool) (trees : List Tree) (cs : List Claim) → SomeClaimFails answers trees cs → each_holds answers (of_list (map (claim_tree trees) cs)) ≡ false
some-to answers trees cs some = elim (cases_Bool (each_holds answers (of_list (map (claim_tree trees) cs)))) [
  | inl e ↦ absurd (fails-not answers trees cs (each-to answers trees cs e) some)
  | inr e ↦ e
]

-- claims on earlier trees have the values that they have among all
front-claim : (answers : ℕ → Bool) (trees : List Tree) (i : ℕ) (n : Node) (at : StandsAt trees i n) (c : Claim) → c.node < i → claim_holds answers trees c ≡ claim_holds answers at.front c
front-claim answers trees i n at c lt = ap (λ (t : Tree). as_claimed c.holds (holds answers t)) (earlier-tree trees i c.node n at lt)

module _ (answers : ℕ → Bool) (trees : List Tree) (i : ℕ) (cs : List Claim) (at : StandsAt trees i (node.All cs)) (before : All (λ (c : Claim). c.node < i) cs) where
  own-value : holds answers (numbered_tree trees i) ≡ each_holds answers (of_list (map (claim_tree at.front) cs))
  own-value = ap (λ (t : Tree). holds answers t) (own-tree trees i (node.All cs) at)

  pub all-each : holds answers (numbered_tree trees i) ≡ true → EachClaimHolds answers trees cs
  all-each e =
      let each = each-to answers at.front cs (sym own-value ∙ e) in
      λ k d lt. front-claim answers trees i (node.All cs) at (get_or cs k d) (before k d lt) ∙ each k d lt

  front-each : EachClaimHolds answers trees cs → EachClaimHolds answers at.front cs
  front-each each = λ k d lt. sym (front-claim answers trees i (node.All cs) at (get_or cs k d) (before k d lt)) ∙ each k d lt

  pub each-all : EachClaimHolds answers trees cs → holds answers (numbered_tree trees i) ≡ true
  each-all each = own-value ∙ each-from answers at.front cs (front-each each)

  some-all : SomeClaimFails answers trees cs → holds answers (numbered_tree trees i) ≡ false
  some-all some = elim (cases_Bool (holds answers (numbered_tree trees i))) [
    | inl e ↦ absurd (fails-not answers trees cs (all-each e) some)
    | inr e ↦ e
  ]

  all-some : holds answers (numbered_tree trees i) ≡ false → SomeClaimFails answers trees cs
  all-some e =
      let some = some-from answers at.front cs (sym own-value ∙ e) in
      let lt = subst (λ (c : Claim). c.node < i) some.3 (before some.0 some.1 some.2) in
      (some.0, some.1, some.2, some.3, front-claim answers trees i (node.All cs) at some.1 lt ∙ some.4)

-- ---- parts

test-part : (nodes : List Node) (claim : Claim) (n : ℕ) → slice_get nodes claim.node ≡ Some (node.Test n) → IsPartOfClaim (node_trees nodes) claim (part.Test n)
test-part nodes claim n e =
    let trees = node_trees nodes in
    let at = stands-at nodes claim.node (node.Test n) e in
    let own = own-tree trees claim.node (node.Test n) at in
    let within : claim.node < length trees = rw (length-trees nodes) (slice_get_within nodes claim.node (node.Test n) e) in (
      λ answers. ap (λ (t : Tree). as_claimed claim.holds (holds answers t)) own,
      λ t below. subst (AreBelow t) own (below claim.node yes within),
    )

all-part : (nodes : List Node) (claim : Claim) (b : Bool) (cs : Bor (List Claim)) → AreOverEarlier nodes → slice_get nodes claim.node ≡ Some (node.All cs.now) → claim.holds ≡ b → IsPartOfClaim (node_trees nodes) claim (joint_part b cs)
all-part nodes claim true cs earlier e is =
    let trees = node_trees nodes in
    let at = stands-at nodes claim.node (node.All cs.now) e in
    let before = earlier claim.node (node.All cs.now) e in
    let within = slice_get_within nodes claim.node (node.All cs.now) e in
    let inside : AreClaimsOf trees cs.now = λ k d lt. let first = before k d lt in rw (length-trees nodes) (omega arith) in (
      (inside, before),
      λ answers. (
        λ h. all-each answers trees claim.node cs.now at before (subst (λ (x : Bool). as_claimed x (holds answers (numbered_tree trees claim.node)) ≡ true) is h),
        λ each. subst (λ (x : Bool). as_claimed x (holds answers (numbered_tree trees claim.node)) ≡ true) (sym is) (each-all answers trees claim.node cs.now at before each),
      ),
    )
all-part nodes claim false cs earlier e is =
    let trees = node_trees nodes in
    let at = stands-at nodes claim.node (node.All cs.now) e in
    let before = earlier claim.node (node.All cs.now) e in
    let within = slice_get_within nodes claim.node (node.All cs.now) e in
    let inside : AreClaimsOf trees cs.now = λ k d lt. let first = before k d lt in rw (length-trees nodes) (omega arith) in (
      (inside, before),
      λ answers. (
        λ h. all-some answers trees claim.node cs.now at before (not-true (holds answers (numbered_tree trees claim.node)) (subst (λ (x : Bool). as_claimed x (holds answers (numbered_tree trees claim.node)) ≡ true) is h)),
        λ some. subst (λ (x : Bool). as_claimed x (holds answers (numbered_tree trees claim.node)) ≡ true) (sym is) (not_from_false (holds answers (numbered_tree trees claim.node)) (some-all answers trees claim.node cs.now at before some)),
      ),
    )

-- the part of a claim by its node
pub part-of-test : (nodes : List Node) (claim : Claim) (own : Node) (n : ℕ) → IsClaimOf (node_trees nodes) claim → own ≡ get_or nodes claim.node own → own ≡ node.Test n → IsPartOfClaim (node_trees nodes) claim (part.Test n)
part-of-test nodes claim own n there at is =
    let within : claim.node < length nodes = subst (λ (k : ℕ). claim.node < k) (length-trees nodes) there in
    test-part nodes claim n (slice_get-get_or nodes claim.node own within ∙ ap (λ (m : Node). Some m) (sym at ∙ is))

pub part-of-all : (nodes : List Node) (claim : Claim) (own : Node) (inner : List Claim) (cs : Bor (List Claim)) (p : Part) → AreOverEarlier nodes → IsClaimOf (node_trees nodes) claim → own ≡ get_or nodes claim.node own → own ≡ node.All inner → cs.now ≡ inner →
    p ≡ joint_part claim.holds cs → IsPartOfClaim (node_trees nodes) claim p
part-of-all nodes claim own inner cs p earlier there at is same made =
    let within : claim.node < length nodes = subst (λ (k : ℕ). claim.node < k) (length-trees nodes) there in
    let here = slice_get-get_or nodes claim.node own within ∙ ap (λ (m : Node). Some m) (sym at ∙ is) ∙ ap (λ (xs : List Claim). Some (node.All xs)) (sym same) in
    subst (IsPartOfClaim (node_trees nodes) claim) (sym made) (all-part nodes claim claim.holds cs earlier here refl)

-- Claims with the values of trees, and trees with the values of claims.
use Rattle.std.proofs.Common.{◌≡◌, ◌<◌, ◌≤◌, ◌+◌, ◌++◌, ◌∷◌, ℕ, List, [], zero, suc, Bool, true, false, ◌&&◌, ◌||◌, length, map, take, get_or, slice_get, Some, All, Result, Ok, Err, refl, sym, ap, ◌∙◌, subst}
use Rattle.std.specs.Prelude.{IfOk}
use Rattle.std.specs.Prelude.{not as opposite}
use Rattle.std.specs.List.{AllZip}
use Rattle.std.specs.Borrow.{Bor}
use Rattle.std.proofs.lemmas.List.{take_all, take_more}
use Rattle.std.proofs.lemmas.List.Elements.{All-cons, All-nil}
use Rattle.formula_tree.specs.Trees.{Tree, all, of_list, one_of, test}
use Rattle.formula_tree.specs.Values.{AreBelow, EachBelow, each_holds, holds, some_holds}
use Rattle.formula_nodes.specs.Claims.{AddsTestsOf, AreClaimsOf, Grows, IsClaimFor, IsClaimOf, IsClaimOfEach, IsTreeFor, as_claimed, claim_holds, numbered_tree, turned_claim}
use Rattle.formula_nodes.specs.Parts.{IsPartOfClaim}
use Rattle.formula_nodes.specs.Standing.{claim_tree, turned_tree}
use Rattle.formula_nodes.specs.Steps.{AreClaimsFor, AreTreesFor, IsClaimForJoined, joined_tree}
use Rattle.formula_nodes.specs.declared.claim.Claim.{Claim}
use Rattle.formula_nodes.specs.declared.part.Part.TheVariants as part
use Rattle.formula_nodes.proofs.Laws.{had-values, keep-values, stays-for}
use Rattle.formula_nodes.proofs.Standing.{claim-tree-holds, each-from, each-to, some-from, some-to, turned-holds}
use Rattle.formula_tree.proofs.FormulaWalks.{take_next}

-- ---- truth values

same-bools : (a b : Bool) → (a ≡ true → b ≡ true) → (b ≡ true → a ≡ true) → a ≡ b
same-bools true b to from = sym (to refl)
same-bools false true to from = from refl
same-bools false false to from = refl

twice : (b : Bool) → opposite (opposite b) ≡ b
twice true = refl
twice false = refl

claimed-twice : (b v : Bool) → as_claimed b (as_claimed b v) ≡ v
claimed-twice true v = refl
claimed-twice false v = twice v

opposite-claimed : (b v : Bool) → as_claimed (opposite b) v ≡ opposite (as_claimed b v)
opposite-claimed true v = refl
opposite-claimed false v = sym (twice v)

not-either : (a b : Bool) → opposite (a || b) ≡ opposite a && opposite b
not-either true b = refl
not-either false b = refl

-- ---- lists side by side

zip-push : {X Y : Type 0} (R : X → Y → Type 0) (xs : List X) (ys : List Y) (x : X) (y : Y) → AllZip R xs ys → R x y → AllZip R (xs ++ x ∷ []) (ys ++ y ∷ [])
zip-push R [] [] x y zip one = (one, tt)
zip-push R [] (b ∷ ys) x y zip one = absurd zip
zip-push R (a ∷ xs) [] x y zip one = absurd zip
zip-push R (a ∷ xs) (b ∷ ys) x y zip one = (zip.0, zip-push R xs ys x y zip.1 one)

-- ---- opposites

turned-node : (b : Bool) (c : Claim) → (turned_claim b c).node ≡ c.node
turned-node true c = refl
turned-node false c = refl

pub turned-within : (b : Bool) (trees : List Tree) (c : Claim) → IsClaimOf trees c → IsClaimOf trees (turned_claim b c)
turned-within true trees c there = there
turned-within false trees c there = there

turned-value : (b : Bool) (answers : ℕ → Bool) (trees : List Tree) (c : Claim) → claim_holds answers trees (turned_claim b c) ≡ as_claimed b (claim_holds answers trees c)
turned-value true answers trees c = refl
turned-value false answers trees c = opposite-claimed c.holds (holds answers (numbered_tree trees c.node))

pub turned-for : (b : Bool) (t : Tree) (trees : List Tree) (c : Claim) → IsClaimFor t trees c → IsClaimFor (turned_tree b t) trees (turned_claim b c)
turned-for b t trees c is = (turned-within b trees c is.0, λ answers. turned-value b answers trees c ∙ ap (as_claimed b) (is.1 answers) ∙ sym (turned-holds answers b t))

-- ---- claims for several trees

turned-each : (every : Bool) (answers : ℕ → Bool) (ts : List Tree) → as_claimed every (holds answers (joined_tree every ts)) ≡ each_holds answers (of_list (map (turned_tree every) ts))
turned-each true answers [] = refl
turned-each true answers (t ∷ ts) = ap (λ (b : Bool). holds answers t && b) (turned-each true answers ts)
turned-each false answers [] = refl
turned-each false answers (t ∷ ts) = not-either (holds answers t) (some_holds answers (of_list ts)) ∙ ap (λ (b : Bool). opposite (holds answers t) && b) (turned-each false answers ts)

-- the claims' conjunction has the value of the trees', each of them turned
zip-value : (every : Bool) (answers : ℕ → Bool) (trees ts : List Tree) (cs : List Claim) → AreClaimsFor every ts trees cs → each_holds answers (of_list (map (claim_tree trees) cs)) ≡ each_holds answers (of_list (map (turned_tree every) ts))
zip-value every answers trees [] [] zip = refl
zip-value every answers trees [] (c ∷ cs) zip = absurd zip
zip-value every answers trees (t ∷ ts) [] zip = absurd zip
zip-value every answers trees (t ∷ ts) (c ∷ cs) zip =
    ap (λ (b : Bool). b && each_holds answers (of_list (map (claim_tree trees) cs))) (claim-tree-holds answers trees c ∙ zip.0.1 answers) ∙ ap (λ (b : Bool). holds answers (turned_tree every t) && b) (zip-value every answers trees ts cs zip.1)

pub zip-within : (every : Bool) (trees ts : List Tree) (cs : List Claim) → AreClaimsFor every ts trees cs → AreClaimsOf trees cs
zip-within every trees [] [] zip = All-nil (IsClaimOf trees)
zip-within every trees [] (c ∷ cs) zip = absurd zip
zip-within every trees (t ∷ ts) [] zip = absurd zip
zip-within every trees (t ∷ ts) (c ∷ cs) zip = All-cons (IsClaimOf trees) c cs zip.0.0 (zip-within every trees ts cs zip.1)

pub joined-claim : (every : Bool) (old new : List Tree) (cs : List Claim) (whole c : Claim) → Grows old new → AreClaimsOf old cs → IsClaimOfEach cs new whole → c ≡ turned_claim every whole → IsClaimForJoined every old new cs c
joined-claim every old new cs whole c grows there is turned ts zip =
    subst (IsClaimFor (joined_tree every ts) new) (sym turned) (
      turned-within every new whole is.0,
      λ answers.
          let value : claim_holds answers new whole ≡ each_holds answers (of_list (map (claim_tree old) cs)) =
          same-bools (claim_holds answers new whole) (each_holds answers (of_list (map (claim_tree old) cs)))
          (λ h. each-from answers old cs (had-values old new cs answers grows there ((is.1 answers).0 h)))
          (λ h. (is.1 answers).1 (keep-values old new cs answers grows there (each-to answers old cs h))) in
          turned-value every answers new whole ∙ ap (as_claimed every) (value ∙ zip-value every answers old ts cs zip ∙ sym (turned-each every answers ts)) ∙ claimed-twice every (holds answers (joined_tree every ts)),
    )

zip-grows : (every : Bool) (old new ts : List Tree) (cs : List Claim) → Grows old new → AreClaimsFor every ts old cs → AreClaimsFor every ts new cs
zip-grows every old new [] [] grows zip = tt
zip-grows every old new [] (c ∷ cs) grows zip = absurd zip
zip-grows every old new (t ∷ ts) [] grows zip = absurd zip
zip-grows every old new (t ∷ ts) (c ∷ cs) grows zip = (stays-for old new (turned_tree every t) c grows zip.0, zip-grows every old new ts cs grows zip.1)

pub next-claims : (every : Bool) (old new ts : List Tree) (i : ℕ) (t u : Tree) (cs longer : List Claim) (c turned : Claim) → Grows old new → AreClaimsFor every (take i ts) old cs → Some t ≡ slice_get ts i → u ≡ t → IsClaimFor u new c → turned ≡ turned_claim every c →
    longer ≡ cs ++ turned ∷ [] → AreClaimsFor every (take (i + 1) ts) new longer
next-claims every old new ts i t u cs longer c turned grows zip here same is turn longer_is =
    let one : IsClaimFor (turned_tree every t) new turned = subst (IsClaimFor (turned_tree every t) new) (sym turn) (turned-for every t new c (subst (λ (x : Tree). IsClaimFor x new c) same is)) in
    let whole = zip-push (λ (x : Tree) (d : Claim). IsClaimFor (turned_tree every x) new d) (take i ts) cs t turned (zip-grows every old new (take i ts) cs grows zip) one in
    subst (λ (xs : List Tree). AreClaimsFor every xs new longer) (sym (take_next ts i t here)) (subst (AreClaimsFor every (take i ts ++ t ∷ []) new) (sym longer_is) whole)

pub all-claims : (every : Bool) (trees ts : List Tree) (i : ℕ) (cs : List Claim) → length ts ≤ i → AreClaimsFor every (take i ts) trees cs → AreClaimsFor every ts trees cs
all-claims every trees ts i cs past zip = subst (λ (xs : List Tree). AreClaimsFor every xs trees cs) (take_all i ts past) zip

-- a branch's tests are among those of all
pub below-at : (t : ℕ) (ts : List Tree) (i : ℕ) (u : Tree) → Some u ≡ slice_get ts i → EachBelow t (of_list ts) → AreBelow t u
below-at t [] i u e below = absurd (cc)
below-at t (x ∷ xs) zero u e below = let same : x ≡ u = cc in subst (AreBelow t) same below.0
below-at t (x ∷ xs) (suc i) u e below = below-at t xs i u e below.1

pub adds-next : (ts : List Tree) (i : ℕ) (u v : Tree) (first old new : List Tree) → AddsTestsOf (all (of_list ts)) first old → Some u ≡ slice_get ts i → v ≡ u → AddsTestsOf v old new → AddsTestsOf (all (of_list ts)) first new
adds-next ts i u v first old new before here same next t below each = next t (before t below each) (subst (AreBelow t) (sym same) (below-at t ts i u here each))

-- the claim of no branches
pub none-claim : {E : Type 0} (r : Result Claim E) (every : Bool) (old new : List Tree) (cs : List Claim) (t : Tree) → cs ≡ [] → ((answers : ℕ → Bool) → holds answers t ≡ holds answers (joined_tree every [])) → IfOk r (IsClaimForJoined every old new cs) → IfOk r (IsClaimFor t new)
none-claim (Err e) every old new cs t empty same is = tt
none-claim (Ok c) every old new cs t empty same is =
    let whole = is [] (subst (AreClaimsFor every [] old) (sym empty) tt) in
    (whole.0, λ answers. whole.1 answers ∙ sym (same answers))

-- ---- trees for several claims

trees-value : (every : Bool) (answers : ℕ → Bool) (trees : List Tree) (cs : List Claim) (ts : List Tree) → AreTreesFor every cs trees ts → as_claimed every (holds answers (joined_tree every ts)) ≡ each_holds answers (of_list (map (claim_tree trees) cs))
trees-value true answers trees [] [] zip = refl
trees-value false answers trees [] [] zip = refl
trees-value every answers trees [] (t ∷ ts) zip = absurd zip
trees-value every answers trees (c ∷ cs) [] zip = absurd zip
trees-value true answers trees (c ∷ cs) (t ∷ ts) zip =
    ap (λ (b : Bool). b && each_holds answers (of_list ts)) (zip.0.0 answers ∙ sym (claim-tree-holds answers trees c)) ∙ ap (λ (b : Bool). holds answers (claim_tree trees c) && b) (trees-value true answers trees cs ts zip.1)
trees-value false answers trees (c ∷ cs) (t ∷ ts) zip =
    let own : opposite (holds answers t) ≡ holds answers (claim_tree trees c) = ap opposite (zip.0.0 answers ∙ turned-value false answers trees c) ∙ twice (claim_holds answers trees c) ∙ sym (claim-tree-holds answers trees c) in
    not-either (holds answers t) (some_holds answers (of_list ts)) ∙ ap (λ (b : Bool). b && opposite (some_holds answers (of_list ts))) own ∙ ap (λ (b : Bool). holds answers (claim_tree trees c) && b) (trees-value false answers trees cs ts zip.1)

trees-below : (every : Bool) (t : ℕ) (trees : List Tree) (cs : List Claim) (ts : List Tree) → All (AreBelow t) trees → AreTreesFor every cs trees ts → EachBelow t (of_list ts)
trees-below every t trees [] [] below zip = tt
trees-below every t trees [] (u ∷ us) below zip = absurd zip
trees-below every t trees (c ∷ cs) [] below zip = absurd zip
trees-below every t trees (c ∷ cs) (u ∷ us) below zip = (zip.0.1 t below, trees-below every t trees cs us below zip.1)

pub all-tree : (trees : List Tree) (claim : Claim) (inner : Bor (List Claim)) (ts : List Tree) (t : Tree) → IsPartOfClaim trees claim (part.All inner) → AreTreesFor true inner.now trees ts → t ≡ all (of_list ts) → IsTreeFor claim trees t
all-tree trees claim inner ts t is zip made = subst (IsTreeFor claim trees) (sym made) (
  λ answers.
      let value = trees-value true answers trees inner.now ts zip in
      same-bools (each_holds answers (of_list ts)) (claim_holds answers trees claim)
      (λ h. (is.1 answers).1 (each-to answers trees inner.now (sym value ∙ h)))
      (λ h. value ∙ each-from answers trees inner.now ((is.1 answers).0 h)),
  λ n below. trees-below true n trees inner.now ts below zip,
)

opposite-true : (b : Bool) → opposite b ≡ false → b ≡ true
opposite-true true e = refl
opposite-true false e = sym e

pub one-tree : (trees : List Tree) (claim : Claim) (inner : Bor (List Claim)) (ts : List Tree) (t : Tree) → IsPartOfClaim trees claim (part.OneOf inner) → AreTreesFor false inner.now trees ts → t ≡ one_of (of_list ts) → IsTreeFor claim trees t
one-tree trees claim inner ts t is zip made = subst (IsTreeFor claim trees) (sym made) (
  λ answers.
      let value = trees-value false answers trees inner.now ts zip in
      same-bools (some_holds answers (of_list ts)) (claim_holds answers trees claim)
      (λ h. (is.1 answers).1 (some-from answers trees inner.now (sym value ∙ ap opposite h)))
      (λ h. opposite-true (some_holds answers (of_list ts)) (value ∙ some-to answers trees inner.now ((is.1 answers).0 h))),
  λ n below. trees-below false n trees inner.now ts below zip,
)

turned-test-below : (b : Bool) (n t : ℕ) → n < t → AreBelow t (turned_tree b (test n))
turned-test-below true n t lt = lt
turned-test-below false n t lt = lt

pub test-tree : (trees : List Tree) (claim : Claim) (n : ℕ) (t : Tree) → IsPartOfClaim trees claim (part.Test n) → t ≡ turned_tree claim.holds (test n) → IsTreeFor claim trees t
test-tree trees claim n t is made = subst (IsTreeFor claim trees) (sym made) (
  λ answers. turned-holds answers claim.holds (test n) ∙ sym (is.0 answers),
  λ k below. turned-test-below claim.holds n k (is.1 k below),
)

pub next-trees : (every : Bool) (trees : List Tree) (cs : List Claim) (i : ℕ) (c turned : Claim) (ts longer : List Tree) (t : Tree) → i < length cs → c ≡ get_or cs i c → AreTreesFor every (take i cs) trees ts → turned ≡ turned_claim every c → IsTreeFor turned trees t →
    longer ≡ ts ++ t ∷ [] → AreTreesFor every (take (i + 1) cs) trees longer
next-trees every trees cs i c turned ts longer t lt at zip turn is longer_is =
    let more_claims : take (i + 1) cs ≡ take i cs ++ c ∷ [] = take_more cs i c lt ∙ ap (λ (x : Claim). take i cs ++ x ∷ []) (sym at) in
    let whole = zip-push (λ (d : Claim) (x : Tree). IsTreeFor (turned_claim every d) trees x) (take i cs) ts c t zip (subst (λ (d : Claim). IsTreeFor d trees t) turn is) in
    subst (λ (ds : List Claim). AreTreesFor every ds trees longer) (sym more_claims) (subst (AreTreesFor every (take i cs ++ c ∷ []) trees) (sym longer_is) whole)

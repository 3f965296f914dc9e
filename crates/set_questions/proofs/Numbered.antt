-- Branches that are numbered one by one.
use Rattle.std.proofs.Common.{◌≡◌, ◌+◌, ◌≤◌, ◌<◌, ◌++◌, ℕ, suc, zero, List, [], ◌∷◌, length, get_or, slice_get, take, Some, None, inl, inr, refl, ap, sym, ◌∙◌, subst, arith, rules}
use Rattle.std.specs.List.{AllZip}
use Rattle.std.proofs.lemmas.Bool.{cases_lt}
use Rattle.std.proofs.lemmas.List.{take_all}
use Rattle.std.proofs.lemmas.Option.{slice_get-get_or}
use Rattle.formula_tree.specs.declared.formula.Branches.{Branches}
use Rattle.formula_tree.specs.declared.formula.Formula.{the_lemmas}
use Rattle.formula_tree.specs.declared.formula.Formula.TheVariants.{OneOf}
use Rattle.formula_tree.specs.Trees.{Tree, Trees, all, more, no, none, not, of_list, one_of, test, tree_of, trees_of, yes}
use Rattle.formula_tree.specs.Values.{AreBelow, EachBelow}
use Rattle.formula_nodes.specs.Claims.{AddsTestsOf, Grows, IsClaimFor}
use Rattle.formula_nodes.specs.declared.claim.Claim.{Claim}
use Rattle.formula_nodes.proofs.Laws.{stays-for}
use Rattle.set_questions.specs.Numbering.{AreInnerClaims, AreTreeClaims, inner_trees, some_trees, tree_list}
use Rattle.set_questions.proofs.Zipped.{zip-moved, zip-next}

pub tree-OneOf : (b : Branches) → tree_of (OneOf b) ≡ one_of (of_list (trees_of b))
tree-OneOf b = search (rules, the_lemmas)

pub list-again : (ts : List Tree) → tree_list (of_list ts) ≡ ts
list-again [] = refl
list-again (t ∷ ts) = ap (λ us. t ∷ us) (list-again ts)

-- ---- more trees

pub trees-later : (old new : List Tree) → Grows old new → (ts : List Tree) (cs : List Claim) → AreTreeClaims old ts cs → AreTreeClaims new ts cs
trees-later old new grows ts cs = zip-moved (λ (t : Tree) (c : Claim). IsClaimFor t old c) (λ (t : Tree) (c : Claim). IsClaimFor t new c) (λ t c is. stays-for old new t c grows is) ts cs

pub inner-later : (old new : List Tree) → Grows old new → (ts : List Tree) (css : List (List Claim)) → AreInnerClaims old ts css → AreInnerClaims new ts css
inner-later old new grows ts css =
    zip-moved (λ (t : Tree) (cs : List Claim). AreTreeClaims old (inner_trees t) cs) (λ (t : Tree) (cs : List Claim). AreTreeClaims new (inner_trees t) cs) (λ t cs are. trees-later old new grows (inner_trees t) cs are) ts css

-- ---- one more

pub claims-next : (old new ts : List Tree) (i : ℕ) (t u : Tree) (cs longer : List Claim) (c : Claim) → Grows old new → AreTreeClaims old (take i ts) cs → Some t ≡ slice_get ts i → u ≡ t → IsClaimFor u new c → longer ≡ cs ++ c ∷ [] →
    AreTreeClaims new (take (i + 1) ts) longer
claims-next old new ts i t u cs longer c grows are here same is longer_is =
    subst (λ (xs : List Claim). AreTreeClaims new (take (i + 1) ts) xs) (sym longer_is)
    (zip-next (λ (x : Tree) (d : Claim). IsClaimFor x new d) i ts cs t c (sym here) (subst (λ (x : Tree). IsClaimFor x new c) same is) (trees-later old new grows (take i ts) cs are))

pub inner-next : (old new ts : List Tree) (i : ℕ) (t u : Tree) (css longer : List (List Claim)) (cs : List Claim) → Grows old new → AreInnerClaims old (take i ts) css → Some t ≡ slice_get ts i → u ≡ t → AreTreeClaims new (inner_trees u) cs →
    longer ≡ css ++ cs ∷ [] → AreInnerClaims new (take (i + 1) ts) longer
inner-next old new ts i t u css longer cs grows are here same is longer_is =
    subst (λ (xs : List (List Claim)). AreInnerClaims new (take (i + 1) ts) xs) (sym longer_is)
    (zip-next (λ (x : Tree) (ds : List Claim). AreTreeClaims new (inner_trees x) ds) i ts css t cs (sym here) (subst (λ (x : Tree). AreTreeClaims new (inner_trees x) cs) same is) (inner-later old new grows (take i ts) css are))

pub claims-all : (trees ts : List Tree) (i : ℕ) (cs : List Claim) → length ts ≤ i → AreTreeClaims trees (take i ts) cs → AreTreeClaims trees ts cs
claims-all trees ts i cs past are = subst (λ (xs : List Tree). AreTreeClaims trees xs cs) (take_all i ts past) are

pub inner-all : (trees ts : List Tree) (i : ℕ) (css : List (List Claim)) → length ts ≤ i → AreInnerClaims trees (take i ts) css → AreInnerClaims trees ts css
inner-all trees ts i css past are = subst (λ (xs : List Tree). AreInnerClaims trees xs css) (take_all i ts past) are

pub none-past : (ts : List Tree) (i : ℕ) → None ≡ slice_get ts i → length ts ≤ i
none-past ts i e = elim (cases_lt i (length ts)) [ inl l ↦ (let some : slice_get ts i ≡ Some (get_or ts i yes) = slice_get-get_or ts i yes l in absurd (cc)) | inr g ↦ g ]

-- ---- which tests are asked

below-at : (t : ℕ) (ts : List Tree) (i : ℕ) (u : Tree) → Some u ≡ slice_get ts i → EachBelow t (of_list ts) → AreBelow t u
below-at t [] i u here each = absurd (cc)
below-at t (x ∷ ts) zero u here each = let same : x ≡ u = cc in subst (AreBelow t) same each.0
below-at t (x ∷ ts) (suc i) u here each = below-at t ts i u here each.1

pub adds-next : (ts : List Tree) (i : ℕ) (u v : Tree) (first old new : List Tree) → AddsTestsOf (all (of_list ts)) first old → Some u ≡ slice_get ts i → v ≡ u → AddsTestsOf v old new → AddsTestsOf (all (of_list ts)) first new
adds-next ts i u v first old new before here same next t below each = next t (before t below each) (subst (AreBelow t) (sym same) (below-at t ts i u here each))

each-below : (t : ℕ) (ts : Trees) → EachBelow t ts → EachBelow t (of_list (tree_list ts))
each-below t none each = tt
each-below t (more x ts) each = (each.0, each-below t ts each.1)

some-below : (t : ℕ) (tree : Tree) → AreBelow t tree → EachBelow t (of_list (some_trees tree))
some-below t (one_of ts) each = each-below t ts each
some-below t yes each = tt
some-below t no each = tt
some-below t (test n) each = tt
some-below t (not x) each = tt
some-below t (all ts) each = tt

inner-below : (t : ℕ) (tree : Tree) → AreBelow t tree → EachBelow t (of_list (inner_trees tree))
inner-below t (one_of ts) each = each-below t ts each
inner-below t yes each = tt
inner-below t no each = tt
inner-below t (test n) each = tt
inner-below t (not x) each = some-below t x each
inner-below t (all ts) each = tt

pub adds-inner : (tree : Tree) (inner : List Tree) (old new : List Tree) → inner ≡ inner_trees tree → AddsTestsOf (all (of_list inner)) old new → AddsTestsOf tree old new
adds-inner tree inner old new same adds t below each = adds t below (subst (λ (ts : List Tree). EachBelow t (of_list ts)) (sym same) (inner-below t tree each))

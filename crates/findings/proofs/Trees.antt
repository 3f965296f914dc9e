-- A formula is renumbered branch after branch, and its branches have tests in range.
use Rattle.std.proofs.Common.{◌≡◌, ℕ, ◌≤◌, ◌+◌, List, [], ◌∷◌, ◌++◌, length, take, zero, suc, Some, slice_get, refl, sym, ap, subst, ◌∙◌}
use Rattle.std.proofs.lemmas.List.{take_all}
use Rattle.formula_tree.specs.Trees.{Tree, Trees, more, none, of_list}
use Rattle.formula_tree.specs.Values.{AreBelow, EachBelow}
pub use Rattle.formula_tree.proofs.FormulaWalks.{none_past, size, size_in, size-at, take_next, tree-All}
use Rattle.findings.specs.Renumbering.{renumbered_tree, renumbered_each}

-- ---- tests in range

pub below-at : (k : ℕ) (ts : List Tree) (i : ℕ) (t : Tree) → Some t ≡ slice_get ts i → EachBelow k (of_list ts) → AreBelow k t
below-at k [] i t e below = absurd (cc)
below-at k (x ∷ xs) zero t e below = let same : x ≡ t = cc in subst (AreBelow k) same below.0
below-at k (x ∷ xs) (suc i) t e below = below-at k xs i t e below.1

-- ---- branches, one after another

-- with one more branch at the end
abbrev one_more : Trees → Tree → Trees
one_more none t = more t none
one_more (more x xs) t = more x (one_more xs t)

listed-more : (ts : List Tree) (t : Tree) → of_list (ts ++ t ∷ []) ≡ one_more (of_list ts) t
listed-more [] t = refl
listed-more (x ∷ xs) t = ap (more x) (listed-more xs t)

each-more : (numbers : List ℕ) (ts : List Tree) (t : Tree) → renumbered_each numbers (of_list (ts ++ t ∷ [])) ≡ one_more (renumbered_each numbers (of_list ts)) (renumbered_tree numbers t)
each-more numbers [] t = refl
each-more numbers (x ∷ xs) t = ap (more (renumbered_tree numbers x)) (each-more numbers xs t)

pub each-next : (numbers : List ℕ) (ts : List Tree) (i : ℕ) (t new : Tree) (before after : List Tree) → Some t ≡ slice_get ts i → of_list before ≡ renumbered_each numbers (of_list (take i ts)) → new ≡ renumbered_tree numbers t → after ≡ before ++ new ∷ [] →
    of_list after ≡ renumbered_each numbers (of_list (take (i + 1) ts))
each-next numbers ts i t new before after e was is grows =
    ap of_list grows ∙ listed-more before new ∙ ap (λ (xs : Trees). one_more xs new) was ∙ ap (one_more (renumbered_each numbers (of_list (take i ts)))) is ∙ sym (each-more numbers (take i ts) t) ∙
    ap (λ (xs : List Tree). renumbered_each numbers (of_list xs)) (sym (take_next ts i t e))

pub each-all : (numbers : List ℕ) (ts : List Tree) (i : ℕ) (made : List Tree) → length ts ≤ i → of_list made ≡ renumbered_each numbers (of_list (take i ts)) → of_list made ≡ renumbered_each numbers (of_list ts)
each-all numbers ts i made h e = e ∙ ap (λ (xs : List Tree). renumbered_each numbers (of_list xs)) (take_all i ts h)

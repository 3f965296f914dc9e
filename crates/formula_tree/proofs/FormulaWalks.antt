-- A walk over a formula ends: each part's tree is smaller than the whole one. Branches are taken one after another.
use Rattle.std.proofs.Common.{◌≡◌, ℕ, ◌<◌, ◌≤◌, ◌+◌, List, [], ◌∷◌, ◌++◌, length, take, get_or, zero, suc, Some, None, slice_get, inl, inr, sym, ap, ◌∙◌, arith, rules, Global}
use Rattle.std.proofs.lemmas.Bool.{cases_lt}
use Rattle.std.proofs.lemmas.List.{take_more}
use Rattle.std.proofs.lemmas.Option.{slice_get_within, get_or_from_slice_get, slice_get-get_or}
use Rattle.std.specs.declared.rc.Rc.{Rc}
use Rattle.formula_tree.specs.declared.formula.Branches.{Branches}
use Rattle.formula_tree.specs.declared.formula.Formula.{Formula, the_lemmas}
use Rattle.formula_tree.specs.declared.formula.Formula.TheVariants.{Yes, No, Test, Not, All, OneOf}
use Rattle.formula_tree.specs.Trees.{Tree, Trees, yes, no, test, not, all, one_of, none, more, of_list, tree_of, trees_of}

-- ---- the tree of each form

pub tree-Yes : tree_of Yes ≡ yes
tree-Yes = search (rules, the_lemmas)

pub tree-No : tree_of No ≡ no
tree-No = search (rules, the_lemmas)

pub tree-Test : (n : ℕ) → tree_of (Test n) ≡ test n
tree-Test n = search (rules, the_lemmas)

pub tree-Not : (r : Rc Formula Global) → tree_of (Not r) ≡ not (tree_of r.value)
tree-Not r = search (rules, the_lemmas)

pub tree-All : (b : Branches) → tree_of (All b) ≡ all (of_list (trees_of b))
tree-All b = search (rules, the_lemmas)

pub tree-OneOf : (b : Branches) → tree_of (OneOf b) ≡ one_of (of_list (trees_of b))
tree-OneOf b = search (rules, the_lemmas)

-- ---- how large a tree is, for the walk to end

abbrev mutual
  pub size : Tree → ℕ
  size yes = 0
  size no = 0
  size (test n) = 0
  size (not t) = suc (size t)
  size (all ts) = suc (size_in ts)
  size (one_of ts) = suc (size_in ts)

  pub size_in : Trees → ℕ
  size_in none = 0
  size_in (more t ts) = suc (size t + size_in ts)

pub size-at : (ts : List Tree) (i : ℕ) (t : Tree) → Some t ≡ slice_get ts i → size t < size_in (of_list ts)
size-at [] i t e = absurd (cc)
size-at (x ∷ xs) zero t e = let same : t ≡ x = cc in rw same (omega arith)
size-at (x ∷ xs) (suc i) t e = omega (arith, size-at xs i t e)

pub size-Not : (r : Rc Formula Global) (f : Formula) → f ≡ Not r → size (tree_of r.value) < size (tree_of f)
size-Not r f e = rw (e, tree-Not r) (omega arith)

pub size-All : (b : Branches) (f : Formula) → f ≡ All b → size_in (of_list (trees_of b)) < size (tree_of f)
size-All b f e = rw (e, tree-All b) (omega arith)

pub size-OneOf : (b : Branches) (f : Formula) → f ≡ OneOf b → size_in (of_list (trees_of b)) < size (tree_of f)
size-OneOf b f e = rw (e, tree-OneOf b) (omega arith)

-- ---- branches, one after another

pub take_next : (ts : List Tree) (i : ℕ) (t : Tree) → Some t ≡ slice_get ts i → take (i + 1) ts ≡ take i ts ++ t ∷ []
take_next ts i t e =
    let room : i < length ts = slice_get_within ts i t (sym e) in
    take_more ts i t room ∙ ap (λ (x : Tree). take i ts ++ x ∷ []) (get_or_from_slice_get ts i t t (sym e))

pub none_past : (ts : List Tree) (i : ℕ) → None ≡ slice_get ts i → length ts ≤ i
none_past ts i e = elim (cases_lt i (length ts)) [ inl l ↦ (let some : slice_get ts i ≡ Some (get_or ts i yes) = slice_get-get_or ts i yes l in absurd (cc)) | inr g ↦ g ]

-- Branches, index by index.
use Rattle.std.proofs.Common.{◌≡◌, ℕ, ◌<◌, ◌≤◌, List, length, map, get_or, Some, None, slice_get, option_map, sym, ap, ◌∙◌, rules}
use Rattle.std.proofs.lemmas.Option.{slice_get-map, slice_get-get_or, slice_get_past}
use Rattle.formula_tree.specs.declared.formula.Branch.{Branch}
use Rattle.formula_tree.specs.declared.formula.Formula.{the_lemmas}
use Rattle.formula_tree.specs.Trees.{Tree, tree_of, branch_tree}

-- a branch stands for the tree of its formula
pub branch_is : (b : Branch) → branch_tree b ≡ tree_of b.formula.value
branch_is b = search (rules, the_lemmas)

pub branch_at : (bs : List Branch) (ts : List Tree) (i : ℕ) (b : Branch) → map branch_tree bs ≡ ts → i < length bs → Some (tree_of (get_or bs i b).formula.value) ≡ slice_get ts i
branch_at bs ts i b e room =
    let here : slice_get bs i ≡ Some (get_or bs i b) = slice_get-get_or bs i b room in
    sym (ap (λ (xs : List Tree). slice_get xs i) (sym e) ∙ slice_get-map branch_tree bs i ∙ ap (option_map branch_tree) here ∙ ap (λ (t : Tree). Some t) (branch_is (get_or bs i b)))

pub branch_past : (bs : List Branch) (ts : List Tree) (i : ℕ) → map branch_tree bs ≡ ts → length bs ≤ i → None ≡ slice_get ts i
branch_past bs ts i e past =
    sym (ap (λ (xs : List Tree). slice_get xs i) (sym e) ∙ slice_get-map branch_tree bs i ∙ ap (option_map branch_tree) (slice_get_past bs i past))

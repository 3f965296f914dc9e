-- Numbers of nodes and clauses of branches, one after another.
use Rattle.std.proofs.Common.{◌≡◌, ℕ, ◌≤◌, ◌+◌, List, [], ◌∷◌, ◌++◌, length, take, zero, suc, Some, slice_get, refl, sym, ap, subst, ◌∙◌, arith, append_assoc, Global, append-nil}
use Rattle.std.proofs.lemmas.List.{take_all}
use Rattle.std.specs.declared.rc.Rc.{Rc}
use Rattle.formula_tree.specs.declared.formula.Formula.{Formula}
use Rattle.formula_tree.specs.declared.formula.Formula.TheVariants.{Not, All, OneOf}
use Rattle.formula_tree.specs.declared.formula.Branches.{Branches}
use Rattle.formula_tree.specs.Trees.{Tree, of_list, tree_of, trees_of}
use Rattle.formula_tree.proofs.FormulaWalks.{take_next, tree-Not, tree-All, tree-OneOf}
use Rattle.cnf_clauses.specs.Literals.{Clause}
use Rattle.cnf_clauses.specs.Numbering.{nodes, nodes_in, variable_of, variables_of, node_clauses, node_clauses_in, with_more}
use Rattle.cnf_clauses.proofs.Limits.{cut-twice}

-- ---- branches, one after another

nodes_in-snoc : (ts : List Tree) (t : Tree) → nodes_in (of_list (ts ++ t ∷ [])) ≡ nodes_in (of_list ts) + nodes t
nodes_in-snoc [] t = omega arith
nodes_in-snoc (x ∷ xs) t = omega (arith, nodes_in-snoc xs t)

pub nodes_in-next : (ts : List Tree) (i : ℕ) (t : Tree) → Some t ≡ slice_get ts i → nodes_in (of_list (take (i + 1) ts)) ≡ nodes_in (of_list (take i ts)) + nodes t
nodes_in-next ts i t e = ap (λ (x : List Tree). nodes_in (of_list x)) (take_next ts i t e) ∙ nodes_in-snoc (take i ts) t

nodes_in-take : (ts : List Tree) (i : ℕ) → nodes_in (of_list (take i ts)) ≤ nodes_in (of_list ts)
nodes_in-take [] zero = omega arith
nodes_in-take [] (suc i) = omega arith
nodes_in-take (x ∷ xs) zero = omega arith
nodes_in-take (x ∷ xs) (suc i) = omega (arith, nodes_in-take xs i)

pub nodes_in-within : (ts : List Tree) (i : ℕ) (t : Tree) → Some t ≡ slice_get ts i → nodes_in (of_list (take i ts)) + nodes t ≤ nodes_in (of_list ts)
nodes_in-within ts i t e = omega (arith, nodes_in-next ts i t e, nodes_in-take ts (i + 1))

variables-snoc : (n : ℕ) (ts : List Tree) (t : Tree) → variables_of n (of_list (ts ++ t ∷ [])) ≡ variables_of n (of_list ts) ++ variable_of (n + nodes_in (of_list ts)) t ∷ []
variables-snoc n [] t = let e : n + 0 ≡ n = omega arith in rw e refl
variables-snoc n (x ∷ xs) t =
    let e : n + nodes x + nodes_in (of_list xs) ≡ n + (nodes x + nodes_in (of_list xs)) = omega arith in
    ap (λ (vs : List ℕ). variable_of n x ∷ vs) (rw e at (variables-snoc (n + nodes x) xs t))

pub variables-next : (n : ℕ) (ts : List Tree) (i : ℕ) (t : Tree) (vs new : List ℕ) (v next : ℕ) → Some t ≡ slice_get ts i → vs ≡ variables_of n (of_list (take i ts)) → next ≡ n + nodes_in (of_list (take i ts)) →
    v ≡ variable_of next t → new ≡ vs ++ v ∷ [] → new ≡ variables_of n (of_list (take (i + 1) ts))
variables-next n ts i t vs new v next e old at_next is grows =
    let here : v ≡ variable_of (n + nodes_in (of_list (take i ts))) t = is ∙ ap (λ (x : ℕ). variable_of x t) at_next in
    grows ∙ rw (old, here) (sym (variables-snoc n (take i ts) t)) ∙ ap (λ (x : List Tree). variables_of n (of_list x)) (sym (take_next ts i t e))

clauses-snoc : (n : ℕ) (ts : List Tree) (t : Tree) → node_clauses_in n (of_list (ts ++ t ∷ [])) ≡ node_clauses_in n (of_list ts) ++ node_clauses (n + nodes_in (of_list ts)) t
clauses-snoc n [] t = let e : n + 0 ≡ n = omega arith in rw (e, append-nil) refl
clauses-snoc n (x ∷ xs) t =
    let e : n + nodes x + nodes_in (of_list xs) ≡ n + (nodes x + nodes_in (of_list xs)) = omega arith in
    ap (λ (cs : List Clause). node_clauses n x ++ cs) (rw e at (clauses-snoc (n + nodes x) xs t)) ∙
    sym (append_assoc (node_clauses n x) (node_clauses_in (n + nodes x) (of_list xs)) (node_clauses (n + (nodes x + nodes_in (of_list xs))) t))

pub clauses-next : (n : ℕ) (ts : List Tree) (i : ℕ) (t : Tree) (old mid new : List Clause) (next : ℕ) → Some t ≡ slice_get ts i → mid ≡ with_more old (node_clauses_in n (of_list (take i ts))) →
    next ≡ n + nodes_in (of_list (take i ts)) → new ≡ with_more mid (node_clauses next t) → new ≡ with_more old (node_clauses_in n (of_list (take (i + 1) ts)))
clauses-next n ts i t old mid new next e was at_next is =
    let here : new ≡ with_more mid (node_clauses (n + nodes_in (of_list (take i ts))) t) = subst (λ (x : ℕ). new ≡ with_more mid (node_clauses x t)) at_next is in
    cut-twice old (node_clauses_in n (of_list (take i ts))) (node_clauses (n + nodes_in (of_list (take i ts))) t) mid new was here ∙
    ap (λ (x : List Clause). with_more old x) (sym (clauses-snoc n (take i ts) t) ∙ ap (λ (x : List Tree). node_clauses_in n (of_list x)) (sym (take_next ts i t e)))

pub variables-all : (n : ℕ) (ts : List Tree) (i : ℕ) (vs : List ℕ) → length ts ≤ i → vs ≡ variables_of n (of_list (take i ts)) → vs ≡ variables_of n (of_list ts)
variables-all n ts i vs h e = e ∙ ap (λ (x : List Tree). variables_of n (of_list x)) (take_all i ts h)

pub clauses-all : (n : ℕ) (ts : List Tree) (i : ℕ) (old made : List Clause) → length ts ≤ i → made ≡ with_more old (node_clauses_in n (of_list (take i ts))) → made ≡ with_more old (node_clauses_in n (of_list ts))
clauses-all n ts i old made h e = e ∙ ap (λ (x : List Tree). with_more old (node_clauses_in n (of_list x))) (take_all i ts h)

pub nodes-Not : (r : Rc Formula Global) (f : Formula) → f ≡ Not r → nodes (tree_of f) ≡ nodes (tree_of r.value) + 1
nodes-Not r f e = rw (e, tree-Not r) refl

pub nodes-All : (b : Branches) (f : Formula) → f ≡ All b → nodes (tree_of f) ≡ nodes_in (of_list (trees_of b)) + 1
nodes-All b f e = rw (e, tree-All b) refl

pub nodes-OneOf : (b : Branches) (f : Formula) → f ≡ OneOf b → nodes (tree_of f) ≡ nodes_in (of_list (trees_of b)) + 1
nodes-OneOf b f e = rw (e, tree-OneOf b) refl

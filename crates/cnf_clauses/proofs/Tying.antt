-- The clauses that tie a node to its children, made in parts that are each cut.
use Rattle.std.proofs.Common.{◌≡◌, ℕ, ◌+◌, List, [], ◌∷◌, true, false, Result, subst}
use Rattle.std.specs.Prelude.{IfOk}
use Rattle.formula_tree.specs.Trees.{Tree, Trees, test, all, one_of}
use Rattle.formula_tree.specs.Trees.{not as negation}
use Rattle.cnf_clauses.specs.Literals.{Clause}
use Rattle.cnf_clauses.specs.Numbering.{literals_at, pairs_with, not_clauses, all_clauses, one_of_clauses, variable_of, variables_of, node_clauses, node_clauses_in, with_more}
use Rattle.cnf_clauses.proofs.Limits.{cut-twice, cut-none}

pub tie-not : (v c d : ℕ) (old mid new : List Clause) → c ≡ d → mid ≡ with_more old (((v, false) ∷ (c, false) ∷ []) ∷ []) → new ≡ with_more mid (((v, true) ∷ (c, true) ∷ []) ∷ []) → new ≡ with_more old (not_clauses v d)
tie-not v c d old mid new same e f =
    subst (λ (x : ℕ). new ≡ with_more old (not_clauses v x)) same
    (cut-twice old (((v, false) ∷ (c, false) ∷ []) ∷ []) (((v, true) ∷ (c, true) ∷ []) ∷ []) mid new e f)

pub tie-all : (v : ℕ) (vs ws us : List ℕ) (old mid new : List Clause) → vs ≡ us → ws ≡ us → mid ≡ with_more old (pairs_with (v, false) true vs) → new ≡ with_more mid (((v, true) ∷ literals_at false ws) ∷ []) →
    new ≡ with_more old (all_clauses v us)
tie-all v vs ws us old mid new a b e f =
    cut-twice old (pairs_with (v, false) true us) (((v, true) ∷ literals_at false us) ∷ []) mid new
    (subst (λ (x : List ℕ). mid ≡ with_more old (pairs_with (v, false) true x)) a e)
    (subst (λ (x : List ℕ). new ≡ with_more mid (((v, true) ∷ literals_at false x) ∷ [])) b f)

pub tie-one-of : (v : ℕ) (vs ws us : List ℕ) (old mid new : List Clause) → vs ≡ us → ws ≡ us → mid ≡ with_more old (((v, false) ∷ literals_at true vs) ∷ []) → new ≡ with_more mid (pairs_with (v, true) false ws) →
    new ≡ with_more old (one_of_clauses v us)
tie-one-of v vs ws us old mid new a b e f =
    cut-twice old (((v, false) ∷ literals_at true us) ∷ []) (pairs_with (v, true) false us) mid new
    (subst (λ (x : List ℕ). mid ≡ with_more old (((v, false) ∷ literals_at true x) ∷ [])) a e)
    (subst (λ (x : List ℕ). new ≡ with_more mid (pairs_with (v, true) false x)) b f)

-- a node's own clauses, and then those below it
pub make-not : (n : ℕ) (t inner one two : Tree) (old mid new : List Clause) → t ≡ negation inner → one ≡ inner → two ≡ inner → mid ≡ with_more old (not_clauses n (variable_of (n + 1) one)) → new ≡ with_more mid (node_clauses (n + 1) two) →
    new ≡ with_more old (node_clauses n t)
make-not n t inner one two old mid new is a b e f =
    rw is (cut-twice old (not_clauses n (variable_of (n + 1) inner)) (node_clauses (n + 1) inner) mid new
    (subst (λ (x : Tree). mid ≡ with_more old (not_clauses n (variable_of (n + 1) x))) a e) (subst (λ (x : Tree). new ≡ with_more mid (node_clauses (n + 1) x)) b f))

pub make-all : (n : ℕ) (t : Tree) (ts : Trees) (old mid new : List Clause) → t ≡ all ts → mid ≡ with_more old (all_clauses n (variables_of (n + 1) ts)) → new ≡ with_more mid (node_clauses_in (n + 1) ts) →
    new ≡ with_more old (node_clauses n t)
make-all n t ts old mid new is e f = rw is (cut-twice old (all_clauses n (variables_of (n + 1) ts)) (node_clauses_in (n + 1) ts) mid new e f)

pub make-one-of : (n : ℕ) (t : Tree) (ts : Trees) (old mid new : List Clause) → t ≡ one_of ts → mid ≡ with_more old (one_of_clauses n (variables_of (n + 1) ts)) → new ≡ with_more mid (node_clauses_in (n + 1) ts) →
    new ≡ with_more old (node_clauses n t)
make-one-of n t ts old mid new is e f = rw is (cut-twice old (one_of_clauses n (variables_of (n + 1) ts)) (node_clauses_in (n + 1) ts) mid new e f)

pub make-test : (n k : ℕ) (t : Tree) (old : List Clause) → t ≡ test k → old ≡ with_more old (node_clauses n t)
make-test n k t old is = rw is (cut-none old)

pub make-at : (n : ℕ) (t one : Tree) (mid new : List Clause) → one ≡ t → new ≡ with_more mid (node_clauses n one) → new ≡ with_more mid (node_clauses n t)
make-at n t one mid new a f = subst (λ (x : Tree). new ≡ with_more mid (node_clauses n x)) a f

-- the root's clause, and then those of the nodes
pub make-root : (tests v : ℕ) (t : Tree) (start mid new : List Clause) → v ≡ variable_of tests t → start ≡ [] → mid ≡ with_more start (((v, true) ∷ []) ∷ []) → new ≡ with_more mid (node_clauses tests t) →
    new ≡ with_more [] (((variable_of tests t, true) ∷ []) ∷ node_clauses tests t)
make-root tests v t start mid new a b e f =
    cut-twice [] (((variable_of tests t, true) ∷ []) ∷ []) (node_clauses tests t) mid new
    (subst (λ (x : List Clause). mid ≡ with_more x (((variable_of tests t, true) ∷ []) ∷ [])) b (subst (λ (x : ℕ). mid ≡ with_more start (((x, true) ∷ []) ∷ [])) a e)) f

pub if_ok-same : {X E : Type 0} (r : Result X E) (a b : X) → a ≡ b → IfOk r (λ x. x ≡ a) → IfOk r (λ x. x ≡ b)
if_ok-same {X} r a b e h = subst (λ (y : X). IfOk r (λ x. x ≡ y)) e h

-- The truth of every variable under answers to all tests, and that it makes each clause true but that of the root.
use Rattle.std.proofs.Common.{◌≡◌, ℕ, ◌<◌, ◌+◌, ◌-◌, List, [], ◌∷◌, ◌++◌, length, take, drop, get_or, zero, suc, Bool, true, false, not, ◌&&◌, ◌||◌, Some, None, slice_get, ◌⊎◌, inl, inr, refl, sym, ap, subst, ◌∙◌, arith, length-append, nat_lt, nat_eq, if◌then◌else◌}
use Rattle.std.specs.List.{Contains, All}
use Rattle.std.proofs.lemmas.List.Elements.{Contains-append_left, Contains-append_right, Contains-append_cases, Contains-push}
use Rattle.std.proofs.lemmas.Bool.{cases_Bool}
use Rattle.std.proofs.lemmas.List.{take-append-drop}
use Rattle.std.proofs.lemmas.Option.{slice_get_within, get_or_from_slice_get}
use Rattle.formula_tree.proofs.Laws.{answer_of-more, answer_of-rest}
use Rattle.cnf_clauses.proofs.Settling.{cases_option}
use Rattle.std.proofs.lemmas.Bool.Decides.{nat_tests}
use Rattle.formula_tree.specs.Answers.{Answers, answer_of, Completes}
use Rattle.formula_tree.specs.Trees.{Tree, Trees, yes, no, test, all, one_of, none, more}
use Rattle.formula_tree.specs.Trees.{not as negation}
use Rattle.formula_tree.specs.Values.{AreBelow, EachBelow, holds, each_holds, some_holds}
use Rattle.cnf_clauses.specs.Laws.{IsTruthOf, ClausesHaveTruths, ReplaysExcludeYes, SatisfiedClausesNeverReplay}
use Rattle.cnf_clauses.specs.Literals.{Clause, Literal, AreSatisfied, IsFalseUnder, IsSatisfied, IsUnit}
use Rattle.cnf_clauses.specs.Numbering.{nodes, nodes_in, variable_of, variables_of, literals_at, pairs_with, not_clauses, all_clauses, one_of_clauses, node_clauses, node_clauses_in, clauses_of, with_more}
use Rattle.cnf_clauses.specs.declared.making.TheConstants.{MOST_CLAUSES}
use Rattle.cnf_clauses.specs.Replays.{Replays, refuted, derives}

-- the truths of the nodes that aren't tests, in prefix order
abbrev mutual
  pub truths : (ℕ → Bool) → Tree → List Bool
  truths total yes = true ∷ []
  truths total no = false ∷ []
  truths total (test n) = []
  truths total (negation t) = holds total (negation t) ∷ truths total t
  truths total (all ts) = holds total (all ts) ∷ truths_in total ts
  truths total (one_of ts) = holds total (one_of ts) ∷ truths_in total ts

  pub truths_in : (ℕ → Bool) → Trees → List Bool
  truths_in total none = []
  truths_in total (more t ts) = truths total t ++ truths_in total ts

mutual
  length-truths : (total : ℕ → Bool) (t : Tree) → length (truths total t) ≡ nodes t
  length-truths total yes = refl
  length-truths total no = refl
  length-truths total (test n) = refl
  length-truths total (negation t) = omega (arith, length-truths total t)
  length-truths total (all ts) = omega (arith, length-truths_in total ts)
  length-truths total (one_of ts) = omega (arith, length-truths_in total ts)

  length-truths_in : (total : ℕ → Bool) (ts : Trees) → length (truths_in total ts) ≡ nodes_in ts
  length-truths_in total none = refl
  length-truths_in total (more t ts) = omega (arith, length-append (truths total t) (truths_in total ts), length-truths total t, length-truths_in total ts)

-- `truth` has the listed values from the variable `next` on
abbrev Agrees : (ℕ → Bool) → ℕ → List Bool → Type 0
Agrees truth next values = (k : ℕ) → k < length values → truth (next + k) ≡ get_or values k false

agrees-tail : (truth : ℕ → Bool) (next : ℕ) (v : Bool) (vs : List Bool) → Agrees truth next (v ∷ vs) → Agrees truth (next + 1) vs
agrees-tail truth next v vs h k l = let e : next + 1 + k ≡ next + suc k = omega arith in ap truth e ∙ h (suc k) (omega arith)

agrees-head : (truth : ℕ → Bool) (next : ℕ) (v : Bool) (vs : List Bool) → Agrees truth next (v ∷ vs) → truth next ≡ v
agrees-head truth next v vs h = let e : next ≡ next + 0 = omega arith in ap truth e ∙ h 0 (omega arith)

get_or-left : (xs ys : List Bool) (k : ℕ) → k < length xs → get_or (xs ++ ys) k false ≡ get_or xs k false
get_or-left [] ys k h = absurd (omega arith)
get_or-left (x ∷ xs) ys zero h = refl
get_or-left (x ∷ xs) ys (suc k) h = get_or-left xs ys k (omega arith)

get_or-right : (xs ys : List Bool) (k : ℕ) → get_or (xs ++ ys) (length xs + k) false ≡ get_or ys k false
get_or-right [] ys k = let e : 0 + k ≡ k = omega arith in rw e refl
get_or-right (x ∷ xs) ys k = let e : suc (length xs) + k ≡ suc (length xs + k) = omega arith in rw e (get_or-right xs ys k)

agrees-left : (truth : ℕ → Bool) (next : ℕ) (xs ys : List Bool) → Agrees truth next (xs ++ ys) → Agrees truth next xs
agrees-left truth next xs ys h k l = h k (omega (arith, length-append xs ys)) ∙ get_or-left xs ys k l

agrees-right : (truth : ℕ → Bool) (next n : ℕ) (xs ys : List Bool) → length xs ≡ n → Agrees truth next (xs ++ ys) → Agrees truth (next + n) ys
agrees-right truth next n xs ys e h k l =
    let index : next + n + k ≡ next + (length xs + k) = omega arith in
    ap truth index ∙ h (length xs + k) (omega (arith, length-append xs ys)) ∙ get_or-right xs ys k

-- the tests have their answers
abbrev Answers-tests : (ℕ → Bool) → (ℕ → Bool) → ℕ → Type 0
Answers-tests truth total tests = (n : ℕ) → n < tests → truth n ≡ total n

-- the variable of a tree has the tree's truth
truth-of : (truth total : ℕ → Bool) (tests next : ℕ) (t : Tree) → Answers-tests truth total tests → AreBelow tests t → Agrees truth next (truths total t) → truth (variable_of next t) ≡ holds total t
truth-of truth total tests next yes a b h = agrees-head truth next true [] h
truth-of truth total tests next no a b h = agrees-head truth next false [] h
truth-of truth total tests next (test n) a b h = a n b
truth-of truth total tests next (negation t) a b h = agrees-head truth next (holds total (negation t)) (truths total t) h
truth-of truth total tests next (all ts) a b h = agrees-head truth next (holds total (all ts)) (truths_in total ts) h
truth-of truth total tests next (one_of ts) a b h = agrees-head truth next (holds total (one_of ts)) (truths_in total ts) h

-- ---- satisfied clauses

first-true : (truth : ℕ → Bool) (m : Literal) (c : Clause) → truth m.0 ≡ m.1 → IsSatisfied truth (m ∷ c)
first-true truth m c h = (m, Contains-append_left (m ∷ []) c m (Contains-push [] m), h)

later-true : (truth : ℕ → Bool) (m : Literal) (c : Clause) → IsSatisfied truth c → IsSatisfied truth (m ∷ c)
later-true truth m c (n, stands, h) = (n, Contains-append_right (m ∷ []) c n stands, h)

satisfied-none : (truth : ℕ → Bool) → AreSatisfied truth []
satisfied-none truth c (k, h, e) = absurd (omega arith)

satisfied-more : (truth : ℕ → Bool) (c : Clause) (cs : List Clause) → IsSatisfied truth c → AreSatisfied truth cs → AreSatisfied truth (c ∷ cs)
satisfied-more truth c cs here rest d (zero, h, e) = rw (← e) here
satisfied-more truth c cs here rest d (suc k, h, e) = rest d (k, omega arith, e)

satisfied-append : (truth : ℕ → Bool) (cs ds : List Clause) → AreSatisfied truth cs → AreSatisfied truth ds → AreSatisfied truth (cs ++ ds)
satisfied-append truth cs ds first second c stands =
    elim (Contains-append_cases cs ds c stands) [ inl a ↦ first c a | inr b ↦ second c b ]

-- each variable has the value, or the literal is true
pairs-satisfied : (truth : ℕ → Bool) (l : Literal) (b : Bool) (vs : List ℕ) → (truth l.0 ≡ l.1) ⊎ ((v : ℕ) → Contains vs v → truth v ≡ b) → AreSatisfied truth (pairs_with l b vs)
pairs-satisfied truth l b [] h = satisfied-none truth
pairs-satisfied truth l b (v ∷ vs) (inl here) =
    satisfied-more truth (l ∷ (v, b) ∷ []) (pairs_with l b vs) (first-true truth l ((v, b) ∷ []) here) (pairs-satisfied truth l b vs (inl here))
pairs-satisfied truth l b (v ∷ vs) (inr each) =
    let value : truth v ≡ b = each v (Contains-append_left (v ∷ []) vs v (Contains-push [] v)) in
    satisfied-more truth (l ∷ (v, b) ∷ []) (pairs_with l b vs) (later-true truth l ((v, b) ∷ []) (first-true truth (v, b) [] value))
    (pairs-satisfied truth l b vs (inr (λ w stands. each w (Contains-append_right (v ∷ []) vs w stands))))

-- ---- the branches

both-true : (x y : Bool) → (x && y) ≡ true → (x ≡ true) × (y ≡ true)
both-true true true e = (refl, refl)
both-true true false e = absurd (cc)
both-true false y e = absurd (cc)

both-false : (x y : Bool) → (x || y) ≡ false → (x ≡ false) × (y ≡ false)
both-false false false e = (refl, refl)
both-false false true e = absurd (cc)
both-false true y e = absurd (cc)

one-false : (x y : Bool) → (x && y) ≡ false → (x ≡ false) ⊎ (y ≡ false)
one-false true y e = inr e
one-false false y e = inl refl

one-true : (x y : Bool) → (x || y) ≡ true → (x ≡ true) ⊎ (y ≡ true)
one-true true y e = inl refl
one-true false y e = inr e

truth-first : (truth total : ℕ → Bool) (tests next : ℕ) (t : Tree) (ts : Trees) → Answers-tests truth total tests → AreBelow tests t → Agrees truth next (truths_in total (more t ts)) → truth (variable_of next t) ≡ holds total t
truth-first truth total tests next t ts a b h = truth-of truth total tests next t a b (agrees-left truth next (truths total t) (truths_in total ts) h)

agrees-rest : (truth total : ℕ → Bool) (next : ℕ) (t : Tree) (ts : Trees) → Agrees truth next (truths_in total (more t ts)) → Agrees truth (next + nodes t) (truths_in total ts)
agrees-rest truth total next t ts h = agrees-right truth next (nodes t) (truths total t) (truths_in total ts) (length-truths total t) h

each-true : (truth total : ℕ → Bool) (tests next : ℕ) (ts : Trees) → Answers-tests truth total tests → EachBelow tests ts → Agrees truth next (truths_in total ts) → each_holds total ts ≡ true →
    (v : ℕ) → Contains (variables_of next ts) v → truth v ≡ true
each-true truth total tests next none a b h e v (k, room, at_k) = absurd (omega arith)
each-true truth total tests next (more t ts) a b h e v (zero, room, at_k) =
    let both : (holds total t ≡ true) × (each_holds total ts ≡ true) = both-true (holds total t) (each_holds total ts) e in
    subst (λ (x : ℕ). truth x ≡ true) at_k (truth-first truth total tests next t ts a b.0 h ∙ both.0)
each-true truth total tests next (more t ts) a b h e v (suc k, room, at_k) =
    let both : (holds total t ≡ true) × (each_holds total ts ≡ true) = both-true (holds total t) (each_holds total ts) e in
    each-true truth total tests (next + nodes t) ts a b.1 (agrees-rest truth total next t ts h) both.1 v (k, omega arith, at_k)

none-true : (truth total : ℕ → Bool) (tests next : ℕ) (ts : Trees) → Answers-tests truth total tests → EachBelow tests ts → Agrees truth next (truths_in total ts) → some_holds total ts ≡ false →
    (v : ℕ) → Contains (variables_of next ts) v → truth v ≡ false
none-true truth total tests next none a b h e v (k, room, at_k) = absurd (omega arith)
none-true truth total tests next (more t ts) a b h e v (zero, room, at_k) =
    let both : (holds total t ≡ false) × (some_holds total ts ≡ false) = both-false (holds total t) (some_holds total ts) e in
    subst (λ (x : ℕ). truth x ≡ false) at_k (truth-first truth total tests next t ts a b.0 h ∙ both.0)
none-true truth total tests next (more t ts) a b h e v (suc k, room, at_k) =
    let both : (holds total t ≡ false) × (some_holds total ts ≡ false) = both-false (holds total t) (some_holds total ts) e in
    none-true truth total tests (next + nodes t) ts a b.1 (agrees-rest truth total next t ts h) both.1 v (k, omega arith, at_k)

one-is-false : (truth total : ℕ → Bool) (tests next : ℕ) (ts : Trees) → Answers-tests truth total tests → EachBelow tests ts → Agrees truth next (truths_in total ts) → each_holds total ts ≡ false →
    IsSatisfied truth (literals_at false (variables_of next ts))
one-is-false truth total tests next none a b h e = absurd (cc)
one-is-false truth total tests next (more t ts) a b h e =
    elim (one-false (holds total t) (each_holds total ts) e) [
      | inl here ↦ first-true truth (variable_of next t, false) (literals_at false (variables_of (next + nodes t) ts)) (truth-first truth total tests next t ts a b.0 h ∙ here)
      | inr rest ↦
          later-true truth (variable_of next t, false) (literals_at false (variables_of (next + nodes t) ts))
          (one-is-false truth total tests (next + nodes t) ts a b.1 (agrees-rest truth total next t ts h) rest)
    ]

one-is-true : (truth total : ℕ → Bool) (tests next : ℕ) (ts : Trees) → Answers-tests truth total tests → EachBelow tests ts → Agrees truth next (truths_in total ts) → some_holds total ts ≡ true →
    IsSatisfied truth (literals_at true (variables_of next ts))
one-is-true truth total tests next none a b h e = absurd (cc)
one-is-true truth total tests next (more t ts) a b h e =
    elim (one-true (holds total t) (some_holds total ts) e) [
      | inl here ↦ first-true truth (variable_of next t, true) (literals_at true (variables_of (next + nodes t) ts)) (truth-first truth total tests next t ts a b.0 h ∙ here)
      | inr rest ↦
          later-true truth (variable_of next t, true) (literals_at true (variables_of (next + nodes t) ts))
          (one-is-true truth total tests (next + nodes t) ts a b.1 (agrees-rest truth total next t ts h) rest)
    ]

-- ---- the clauses of one node

satisfied-one : (truth : ℕ → Bool) (c : Clause) → IsSatisfied truth c → AreSatisfied truth (c ∷ [])
satisfied-one truth c h = satisfied-more truth c [] h (satisfied-none truth)

not-satisfied : (truth : ℕ → Bool) (v c : ℕ) (x : Bool) → truth v ≡ not x → truth c ≡ x → AreSatisfied truth (not_clauses v c)
not-satisfied truth v c true e f =
    satisfied-more truth ((v, false) ∷ (c, false) ∷ []) (((v, true) ∷ (c, true) ∷ []) ∷ []) (first-true truth (v, false) ((c, false) ∷ []) e)
    (satisfied-one truth ((v, true) ∷ (c, true) ∷ []) (later-true truth (v, true) ((c, true) ∷ []) (first-true truth (c, true) [] f)))
not-satisfied truth v c false e f =
    satisfied-more truth ((v, false) ∷ (c, false) ∷ []) (((v, true) ∷ (c, true) ∷ []) ∷ []) (later-true truth (v, false) ((c, false) ∷ []) (first-true truth (c, false) [] f))
    (satisfied-one truth ((v, true) ∷ (c, true) ∷ []) (first-true truth (v, true) ((c, true) ∷ []) e))

all-satisfied : (truth total : ℕ → Bool) (tests next v : ℕ) (ts : Trees) → Answers-tests truth total tests → EachBelow tests ts → Agrees truth next (truths_in total ts) → truth v ≡ each_holds total ts →
    AreSatisfied truth (all_clauses v (variables_of next ts))
all-satisfied truth total tests next v ts a b h is =
    let vs : List ℕ = variables_of next ts in
    let long : Clause = (v, true) ∷ literals_at false vs in
    elim (cases_Bool (each_holds total ts)) [
      | inl e ↦
          satisfied-append truth (pairs_with (v, false) true vs) (long ∷ [])
          (pairs-satisfied truth (v, false) true vs (inr (each-true truth total tests next ts a b h e)))
          (satisfied-one truth long (first-true truth (v, true) (literals_at false vs) (is ∙ e)))
      | inr e ↦
          satisfied-append truth (pairs_with (v, false) true vs) (long ∷ [])
          (pairs-satisfied truth (v, false) true vs (inl (is ∙ e)))
          (satisfied-one truth long (later-true truth (v, true) (literals_at false vs) (one-is-false truth total tests next ts a b h e)))
    ]

one-of-satisfied : (truth total : ℕ → Bool) (tests next v : ℕ) (ts : Trees) → Answers-tests truth total tests → EachBelow tests ts → Agrees truth next (truths_in total ts) → truth v ≡ some_holds total ts →
    AreSatisfied truth (one_of_clauses v (variables_of next ts))
one-of-satisfied truth total tests next v ts a b h is =
    let vs : List ℕ = variables_of next ts in
    let long : Clause = (v, false) ∷ literals_at true vs in
    elim (cases_Bool (some_holds total ts)) [
      | inl e ↦
          satisfied-more truth long (pairs_with (v, true) false vs)
          (later-true truth (v, false) (literals_at true vs) (one-is-true truth total tests next ts a b h e))
          (pairs-satisfied truth (v, true) false vs (inl (is ∙ e)))
      | inr e ↦
          satisfied-more truth long (pairs_with (v, true) false vs)
          (first-true truth (v, false) (literals_at true vs) (is ∙ e))
          (pairs-satisfied truth (v, true) false vs (inr (none-true truth total tests next ts a b h e)))
    ]

-- ---- the clauses of all nodes

mutual
  nodes-satisfied : (truth total : ℕ → Bool) (tests next : ℕ) (t : Tree) → Answers-tests truth total tests → AreBelow tests t → Agrees truth next (truths total t) → AreSatisfied truth (node_clauses next t)
  nodes-satisfied truth total tests next yes a b h = satisfied-one truth ((next, true) ∷ []) (first-true truth (next, true) [] (agrees-head truth next true [] h))
  nodes-satisfied truth total tests next no a b h = satisfied-one truth ((next, false) ∷ []) (first-true truth (next, false) [] (agrees-head truth next false [] h))
  nodes-satisfied truth total tests next (test n) a b h = satisfied-none truth
  nodes-satisfied truth total tests next (negation t) a b h =
      let below : Agrees truth (next + 1) (truths total t) = agrees-tail truth next (holds total (negation t)) (truths total t) h in
      let head : truth next ≡ not (holds total t) = agrees-head truth next (holds total (negation t)) (truths total t) h in
      satisfied-append truth (not_clauses next (variable_of (next + 1) t)) (node_clauses (next + 1) t)
      (not-satisfied truth next (variable_of (next + 1) t) (holds total t) head (truth-of truth total tests (next + 1) t a b below))
      (nodes-satisfied truth total tests (next + 1) t a b below)
  nodes-satisfied truth total tests next (all ts) a b h =
      let below : Agrees truth (next + 1) (truths_in total ts) = agrees-tail truth next (holds total (all ts)) (truths_in total ts) h in
      let head : truth next ≡ each_holds total ts = agrees-head truth next (holds total (all ts)) (truths_in total ts) h in
      satisfied-append truth (all_clauses next (variables_of (next + 1) ts)) (node_clauses_in (next + 1) ts)
      (all-satisfied truth total tests (next + 1) next ts a b below head) (branches-satisfied truth total tests (next + 1) ts a b below)
  nodes-satisfied truth total tests next (one_of ts) a b h =
      let below : Agrees truth (next + 1) (truths_in total ts) = agrees-tail truth next (holds total (one_of ts)) (truths_in total ts) h in
      let head : truth next ≡ some_holds total ts = agrees-head truth next (holds total (one_of ts)) (truths_in total ts) h in
      satisfied-append truth (one_of_clauses next (variables_of (next + 1) ts)) (node_clauses_in (next + 1) ts)
      (one-of-satisfied truth total tests (next + 1) next ts a b below head) (branches-satisfied truth total tests (next + 1) ts a b below)

  branches-satisfied : (truth total : ℕ → Bool) (tests next : ℕ) (ts : Trees) → Answers-tests truth total tests → EachBelow tests ts → Agrees truth next (truths_in total ts) → AreSatisfied truth (node_clauses_in next ts)
  branches-satisfied truth total tests next none a b h = satisfied-none truth
  branches-satisfied truth total tests next (more t ts) a b h =
      satisfied-append truth (node_clauses next t) (node_clauses_in (next + nodes t) ts)
      (nodes-satisfied truth total tests next t a b.0 (agrees-left truth next (truths total t) (truths_in total ts) h))
      (branches-satisfied truth total tests (next + nodes t) ts a b.1 (agrees-rest truth total next t ts h))

-- ---- hints can't replay where each clause is satisfied

not-itself : (b : Bool) → b ≡ not b → ⊥
not-itself true e = absurd (cc)
not-itself false e = absurd (cc)

true-not-false : (truth : ℕ → Bool) (d : Answers) (m : Literal) → Completes truth d → truth m.0 ≡ m.1 → IsFalseUnder d m → ⊥
true-not-false truth d m full t f = not-itself m.1 (sym t ∙ full m.0 (not m.1) f)

unit-is-true : (truth : ℕ → Bool) (d : Answers) (c : Clause) (l : Literal) → Completes truth d → IsSatisfied truth c → IsUnit d c l → truth l.0 ≡ l.1
unit-is-true truth d c l full (m, stands, t) u =
    elim (u.others m stands) [
      | inl e ↦ subst (λ (x : Literal). truth x.0 ≡ x.1) e t
      | inr f ↦ absurd (true-not-false truth d m full t f)
    ]

completes-single : (truth : ℕ → Bool) (l : Literal) (n : ℕ) (b : Bool) → truth l.0 ≡ l.1 → answer_of (l ∷ []) n ≡ Some b → truth n ≡ b
completes-single truth l n b t h =
    elim (cases_Bool (nat_eq l.0 n)) [
      | inl e ↦
          let here : Some l.1 ≡ Some b = (rw e at h) in
          let value : l.1 ≡ b = cc in
          let number : l.0 ≡ n = grind (arith, nat_tests) in
          subst (λ (x : ℕ). truth x ≡ b) number (t ∙ value)
      | inr e ↦ let bad : None ≡ Some b = (rw e at h) in absurd (cc)
    ]

completes-more : (truth : ℕ → Bool) (d : Answers) (l : Literal) → Completes truth d → truth l.0 ≡ l.1 → Completes truth (d ++ l ∷ [])
completes-more truth d l full t n b h =
    elim (cases_option (answer_of d n)) [
      | inl e ↦ completes-single truth l n b t (sym (answer_of-rest d (l ∷ []) n e) ∙ h)
      | inr (x, e) ↦
          let same : Some x ≡ Some b = sym (answer_of-more d (l ∷ []) n x e) ∙ h in
          let value : x ≡ b = cc in
          full n x e ∙ value
    ]

clause-there : (cs : List Clause) (k : ℕ) (c : Clause) → slice_get cs k ≡ Some c → Contains cs c
clause-there cs k c there = (k, slice_get_within cs k c there, get_or_from_slice_get cs k c c there)

replays-none : (truth : ℕ → Bool) (cs : List Clause) → AreSatisfied truth cs → (d : Answers) (hs : List ℕ) → Completes truth d → Replays cs d hs → ⊥
replays-none truth cs good d hs full (refuted d1 n c there each) =
    let (m, stands, t) = good c (clause-there cs n c there) in
    true-not-false truth d m full t (each m stands)
replays-none truth cs good d hs full (derives d1 n rest c l there u later) =
    replays-none truth cs good (d ++ l ∷ []) rest (completes-more truth d l full (unit-is-true truth d c l full (good c (clause-there cs n c there)) u)) later

-- ---- the law

-- the tests have their answers, and the variables from `tests` on the listed values
abbrev assigned : ℕ → (ℕ → Bool) → List Bool → ℕ → Bool
assigned tests total values n = if nat_lt n tests then total n else get_or values (n - tests) false

assigned-test : (tests : ℕ) (total : ℕ → Bool) (values : List Bool) → Answers-tests (assigned tests total values) total tests
assigned-test tests total values n h = let e : nat_lt n tests ≡ true = grind (arith, nat_tests) in rw e refl

assigned-node : (tests : ℕ) (total : ℕ → Bool) (values : List Bool) → Agrees (assigned tests total values) tests values
assigned-node tests total values k h =
    let e : nat_lt (tests + k) tests ≡ false = grind (arith, nat_tests) in
    let f : tests + k - tests ≡ k = omega arith in
    rw (e, f) refl

answered-below : (tests : ℕ) (path : Answers) → All (λ (p : Literal). p.0 < tests) path → (n : ℕ) (b : Bool) → answer_of path n ≡ Some b → n < tests
answered-below tests [] h n b e = absurd (cc)
answered-below tests (p ∷ path) h n b e =
    elim (cases_Bool (nat_eq p.0 n)) [
      | inl f ↦ let here : p.0 < tests = h 0 p (omega arith) in let number : p.0 ≡ n = grind (arith, nat_tests) in rw number at here
      | inr f ↦ answered-below tests path (λ k d room. h (suc k) d (omega arith)) n b (rw f at e)
    ]

satisfied-cut : (truth : ℕ → Bool) (limit : ℕ) (cs : List Clause) → AreSatisfied truth cs → AreSatisfied truth (take limit cs)
satisfied-cut truth limit cs good c stands = good c (subst (λ (x : List Clause). Contains x c) (take-append-drop limit cs) (Contains-append_left (take limit cs) (drop limit cs) c stands))

satisfied-made : (truth : ℕ → Bool) (cs : List Clause) → AreSatisfied truth cs → AreSatisfied truth (with_more [] cs)
unfolding with_more
satisfied-made truth cs good = satisfied-cut truth (MOST_CLAUSES - 0) cs good

-- the truth under answers that make the tree yes
truth-under : (tests : ℕ) (tree : Tree) (total : ℕ → Bool) → AreBelow tests tree → holds total tree ≡ true → IsTruthOf tests tree total (assigned tests total (truths total tree))
truth-under tests tree total below e =
    let truth : ℕ → Bool = assigned tests total (truths total tree) in
    let a : Answers-tests truth total tests = assigned-test tests total (truths total tree) in
    let agrees : Agrees truth tests (truths total tree) = assigned-node tests total (truths total tree) in
    let root : IsSatisfied truth ((variable_of tests tree, true) ∷ []) = first-true truth (variable_of tests tree, true) [] (truth-of truth total tests tests tree a below agrees ∙ e) in
    let good : AreSatisfied truth (((variable_of tests tree, true) ∷ []) ∷ node_clauses tests tree) =
    satisfied-more truth ((variable_of tests tree, true) ∷ []) (node_clauses tests tree) root (nodes-satisfied truth total tests tests tree a below agrees) in
    record { answers = a; satisfies = satisfied-made truth (((variable_of tests tree, true) ∷ []) ∷ node_clauses tests tree) good }

pub truths-exist : ClausesHaveTruths
truths-exist tests tree total below e = (assigned tests total (truths total tree), truth-under tests tree total below e)

pub never-replay : SatisfiedClausesNeverReplay
never-replay truth cs decided hints good full replays = replays-none truth cs good decided hints full replays

pub exclude-yes : ReplaysExcludeYes
exclude-yes tests tree path hints total below within replays full =
    elim (cases_Bool (holds total tree)) [
      | inl e ↦
          let good : IsTruthOf tests tree total (assigned tests total (truths total tree)) = truth-under tests tree total below e in
          absurd (replays-none (assigned tests total (truths total tree)) (clauses_of tests tree) good.satisfies path hints
          (λ n b h. good.answers n (answered-below tests path within n b h) ∙ full n b h) replays)
      | inr e ↦ e
    ]

-- Lists that grow, and numbers among them.
use Rattle.std.proofs.Common.{◌≡◌, ℕ, ◌<◌, ◌==◌, ◌||◌, ◌≢◌, List, [], ◌∷◌, ◌++◌, length, get_or, zero, suc, Bool, true, false, Some, slice_get, ◌⊎◌, inl, inr, refl, sym, ap, subst, ◌∙◌, arith}
use Rattle.std.proofs.lemmas.Bool.Decides.{nat_tests}
use Rattle.tree_values.specs.Nodes.{holds_number}

pub get-more : {X : Type 0} (xs ys : List X) (i : ℕ) (x : X) → slice_get xs i ≡ Some x → slice_get (xs ++ ys) i ≡ Some x
get-more [] ys i x e = absurd (cc)
get-more (y ∷ xs) ys zero x e = e
get-more (y ∷ xs) ys (suc i) x e = get-more xs ys i x e

-- one item more that is read past the end too
more-default : {X : Type 0} (old : List X) (d : X) (n : ℕ) → get_or (old ++ d ∷ []) n d ≡ get_or old n d
more-default [] d zero = refl
more-default [] d (suc n) = refl
more-default (x ∷ xs) d zero = refl
more-default (x ∷ xs) d (suc n) = more-default xs d n

pub grown : {X : Type 0} (old new : List X) (x d : X) → new ≡ old ++ x ∷ [] → x ≡ d → (n : ℕ) → get_or new n d ≡ get_or old n d
grown {X} old new x d is same n =
    let longer : new ≡ old ++ d ∷ [] = is ∙ ap (λ (y : X). old ++ y ∷ []) same in
    ap (λ (ys : List X). get_or ys n d) longer ∙ more-default old d n

-- an item of a list with one more at its end
pub get-push : {X : Type 0} (xs : List X) (i : ℕ) (y x : X) → slice_get (xs ++ y ∷ []) i ≡ Some x → (slice_get xs i ≡ Some x) ⊎ ((i ≡ length xs) × (x ≡ y))
get-push [] zero y x e = inr (refl, cc)
get-push [] (suc i) y x e = absurd (cc)
get-push (z ∷ xs) zero y x e = inl e
get-push (z ∷ xs) (suc i) y x e = elim (get-push xs i y x e) [ inl h ↦ inl h | inr (h, k) ↦ inr (ap suc h, k) ]

pub cases-bool : (b : Bool) → (b ≡ true) ⊎ (b ≡ false)
cases-bool true = inl refl
cases-bool false = inr refl

pub or-left : (a b : Bool) → a ≡ true → (a || b) ≡ true
or-left a b e = rw e refl

pub or-right : (a b : Bool) → b ≡ true → (a || b) ≡ true
or-right true b e = refl
or-right false b e = e

pub or-cases : (a b : Bool) → (a || b) ≡ true → (a ≡ true) ⊎ (b ≡ true)
or-cases true b e = inl refl
or-cases false b e = inr e

pub or-false : (a b : Bool) → (a || b) ≡ false → (a ≡ false) × (b ≡ false)
or-false true b e = absurd (cc)
or-false false b e = (refl, e)

pub same-number : (m n : ℕ) → (m == n) ≡ true → m ≡ n
same-number m n e = grind (arith, nat_tests)

pub other-number : (m n : ℕ) → (m == n) ≡ false → m ≢ n
other-number m n e same = grind (arith, nat_tests)

pub number-same : (n : ℕ) → (n == n) ≡ true
number-same n = grind (arith, nat_tests)

pub number-other : (m n : ℕ) → m ≢ n → (m == n) ≡ false
number-other m n ne = grind (arith, nat_tests)

pub among-left : (ms ns : List ℕ) (n : ℕ) → holds_number ms n ≡ true → holds_number (ms ++ ns) n ≡ true
among-left [] ns n e = absurd (cc)
among-left (m ∷ ms) ns n e = elim (or-cases (m == n) (holds_number ms n) e) [
  | inl h ↦ or-left (m == n) (holds_number (ms ++ ns) n) h
  | inr h ↦ or-right (m == n) (holds_number (ms ++ ns) n) (among-left ms ns n h)
]

pub among-right : (ms ns : List ℕ) (n : ℕ) → holds_number (ms ++ ns) n ≡ false → holds_number ns n ≡ false
among-right [] ns n e = e
among-right (m ∷ ms) ns n e = among-right ms ns n (or-false (m == n) (holds_number (ms ++ ns) n) e).1

pub among-at : (ms : List ℕ) (k d : ℕ) → k < length ms → holds_number ms (get_or ms k d) ≡ true
among-at [] k d lt = absurd (omega arith)
among-at (m ∷ ms) zero d lt = or-left (m == m) (holds_number ms m) (number-same m)
among-at (m ∷ ms) (suc k) d lt = or-right (m == get_or ms k d) (holds_number ms (get_or ms k d)) (among-at ms k d (omega arith))

pub or-none : (b : Bool) → b ≡ (b || false)
or-none true = refl
or-none false = refl

pub or-assoc : (a b c : Bool) → (a || (b || c)) ≡ ((a || b) || c)
or-assoc true b c = refl
or-assoc false b c = refl

-- one more number at the end
pub among-push : (ms : List ℕ) (m n : ℕ) → holds_number (ms ++ m ∷ []) n ≡ (holds_number ms n || (m == n))
among-push [] m n = sym (or-none (m == n))
among-push (k ∷ ms) m n = ap (λ (b : Bool). (k == n) || b) (among-push ms m n) ∙ or-assoc (k == n) (holds_number ms n) (m == n)

pub listed-at : (ms ns : List ℕ) (k d : ℕ) → ms ≡ ns → k < length ms → holds_number ns (get_or ms k d) ≡ true
listed-at ms ns k d e lt = subst (λ (xs : List ℕ). holds_number xs (get_or ms k d) ≡ true) e (among-at ms k d lt)

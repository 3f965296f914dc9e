-- Clauses that are made behind others, as far as there are numbers for them.
use Rattle.std.proofs.Common.{◌≡◌, ℕ, ◌<◌, ◌≤◌, ◌+◌, ◌-◌, ◌^◌, List, [], ◌∷◌, ◌++◌, length, take, get_or, map, zero, suc, Bool, refl, sym, ap, subst, ◌∙◌, arith, append_assoc, append-nil, length-append}
use Rattle.std.proofs.lemmas.List.{take_more, take_all}
use Rattle.cnf_clauses.specs.Literals.{Clause, Literal}
use Rattle.cnf_clauses.specs.declared.making.TheConstants.{MOST_CLAUSES}
use Rattle.cnf_clauses.specs.Numbering.{HaveNumbers, pairs_with, with_more}

take-append : (n : ℕ) (xs ys : List Clause) → take n (xs ++ ys) ≡ take n xs ++ take (n - length (take n xs)) ys
take-append zero xs ys = refl
take-append (suc n) [] ys = let e : suc n - 0 ≡ suc n = omega arith in rw e refl
take-append (suc n) (x ∷ xs) ys =
    let e : suc n - suc (length (take n xs)) ≡ n - length (take n xs) = omega arith in
    rw e (ap (λ (zs : List Clause). x ∷ zs) (take-append n xs ys))

-- two extensions in turn
twice : (m : ℕ) (xs ys zs : List Clause) → (xs ++ take (m - length xs) ys) ++ take (m - length (xs ++ take (m - length xs) ys)) zs ≡ xs ++ take (m - length xs) (ys ++ zs)
twice m xs ys zs =
    let some = take (m - length xs) ys in
    let left : m - length (xs ++ some) ≡ m - length xs - length some = omega (arith, length-append xs some) in
    append_assoc xs some (take (m - length (xs ++ some)) zs) ∙
    ap (λ (x : List Clause). xs ++ x) (ap (λ (k : ℕ). some ++ take k zs) left ∙ sym (take-append (m - length xs) ys zs))

pub cut-twice : (xs ys zs mid end : List Clause) → mid ≡ with_more xs ys → end ≡ with_more mid zs → end ≡ with_more xs (ys ++ zs)
unfolding with_more
cut-twice xs ys zs mid end e f = f ∙ ap (λ (x : List Clause). x ++ take (MOST_CLAUSES - length x) zs) e ∙ twice MOST_CLAUSES xs ys zs

take-none : (n : ℕ) → take {A = Clause} n [] ≡ []
take-none zero = refl
take-none (suc n) = refl

pub cut-none : (xs : List Clause) → xs ≡ with_more xs []
unfolding with_more
cut-none xs = sym (ap (λ (x : List Clause). xs ++ x) (take-none (MOST_CLAUSES - length xs)) ∙ append-nil xs)

-- one more clause, where there is a number for it, and where there is none
pub cut-push : (xs : List Clause) (c : Clause) → length xs < MOST_CLAUSES → xs ++ c ∷ [] ≡ with_more xs (c ∷ [])
unfolding with_more
cut-push xs c h = sym (ap (λ (x : List Clause). xs ++ x) (take_all (MOST_CLAUSES - length xs) (c ∷ []) (omega arith)))

pub cut-full : (xs : List Clause) (c : Clause) → MOST_CLAUSES ≤ length xs → xs ≡ with_more xs (c ∷ [])
unfolding with_more
cut-full xs c h =
    let none : MOST_CLAUSES - length xs ≡ 0 = omega arith in
    sym (ap (λ (k : ℕ). xs ++ take k (c ∷ [])) none ∙ append-nil xs)

-- and the number that it gets
pub have-numbers-push : (xs : List Clause) (c : Clause) → length xs < MOST_CLAUSES → HaveNumbers (xs ++ c ∷ [])
unfolding HaveNumbers
have-numbers-push xs c h = omega (arith, length-append xs (c ∷ []))

pub have-numbers-none : HaveNumbers []
unfolding HaveNumbers
have-numbers-none = omega arith

pub have-numbers-fits : (xs : List Clause) (i : ℕ) → HaveNumbers xs → i < length xs → i < 2 ^ 32
unfolding HaveNumbers
have-numbers-fits xs i h l = omega arith

-- one more variable
map-more : {A B : Type 0} → (f : A → B) (xs : List A) (x : A) → map f (xs ++ x ∷ []) ≡ map f xs ++ f x ∷ []
map-more f [] x = refl
map-more f (y ∷ ys) x = ap (λ zs. f y ∷ zs) (map-more f ys x)

pub pairs-more : (l : Literal) (b : Bool) (vs : List ℕ) (k dflt : ℕ) → k < length vs → pairs_with l b (take (k + 1) vs) ≡ pairs_with l b (take k vs) ++ (l ∷ (get_or vs k dflt, b) ∷ []) ∷ []
pairs-more l b vs k dflt h = ap (λ (x : List ℕ). pairs_with l b x) (take_more vs k dflt h) ∙ map-more (λ (v : ℕ). l ∷ (v, b) ∷ []) (take k vs) (get_or vs k dflt)

pub pairs-step : (old mid new : List Clause) (l : Literal) (b : Bool) (vs : List ℕ) (k dflt : ℕ) → k < length vs → mid ≡ with_more old (pairs_with l b (take k vs)) →
    new ≡ with_more mid ((l ∷ (get_or vs k dflt, b) ∷ []) ∷ []) → new ≡ with_more old (pairs_with l b (take (k + 1) vs))
pairs-step old mid new l b vs k dflt h e f =
    rw (pairs-more l b vs k dflt h) (cut-twice old (pairs_with l b (take k vs)) ((l ∷ (get_or vs k dflt, b) ∷ []) ∷ []) mid new e f)

pub pairs-end : (old mid : List Clause) (l : Literal) (b : Bool) (vs : List ℕ) (k : ℕ) → length vs ≤ k → mid ≡ with_more old (pairs_with l b (take k vs)) → mid ≡ with_more old (pairs_with l b vs)
pairs-end old mid l b vs k h e = subst (λ (x : List ℕ). mid ≡ with_more old (pairs_with l b x)) (take_all k vs h) e

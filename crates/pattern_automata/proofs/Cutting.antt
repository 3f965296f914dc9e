-- Lists that lie one behind another in one list.
use Rattle.std.proofs.Common.{◌≡◌, ℕ, zero, suc, ◌+◌, ◌-◌, ◌<◌, ◌≤◌, List, [], ◌∷◌, ◌++◌, length, get_or, take, drop, Bool, false, not, nat_eq, refl, sym, ap, ◌∙◌, subst, arith}
use Rattle.std.proofs.lemmas.List.{drop_at, drop-append-le, drop-take, length-append, length-drop, length-take-le, take_all, take_at, take-append-le, take-take}
use Rattle.std.proofs.lemmas.Bool.{not-false}
use Rattle.std.proofs.lemmas.Bool.Decides.{Decides-eqb}
use Rattle.std.specs.Cmp.Lexicographic.{pointwise, pointwise_decides}
use Rattle.pattern_automata.specs.Cuts.{AreEndsOf, begin_of, cut_at}

pub length-cut : {X : Type 0} (from : ℕ) (ends : List ℕ) (xs : List X) → length (cut_at from ends xs) ≡ length ends
length-cut from [] xs = refl
length-cut from (e ∷ es) xs = ap suc (length-cut e es xs)

-- the list at an index
pub cut-at : {X : Type 0} (from : ℕ) (ends : List ℕ) (xs : List X) (i : ℕ) → i < length ends →
    get_or (cut_at from ends xs) i [] ≡ take (get_or ends i 0 - begin_of from ends i) (drop (begin_of from ends i) xs)
cut-at from [] xs i h = absurd (omega arith)
cut-at from (e ∷ es) xs zero h = refl
cut-at from (e ∷ es) xs (suc zero) h = cut-at e es xs zero (omega arith)
cut-at from (e ∷ es) xs (suc (suc i)) h = cut-at e es xs (suc i) (omega arith)

pub at-most : (from : ℕ) (ends : List ℕ) (n : ℕ) → AreEndsOf from ends n → from ≤ n
at-most from [] n are = omega (arith, are)
at-most from (e ∷ es) n are = omega (arith, are.0, at-most e es n are.1)

-- it begins before it ends, which is within
pub end-within : (from : ℕ) (ends : List ℕ) (n i : ℕ) → AreEndsOf from ends n → i < length ends → (begin_of from ends i ≤ get_or ends i 0) × (get_or ends i 0 ≤ n)
end-within from [] n i are h = absurd (omega arith)
end-within from (e ∷ es) n zero are h = (are.0, at-most e es n are.1)
end-within from (e ∷ es) n (suc zero) are h = end-within e es n zero are.1 (omega arith)
end-within from (e ∷ es) n (suc (suc i)) are h = end-within e es n (suc i) are.1 (omega arith)

-- one list more
pub cut-push : {X : Type 0} (from : ℕ) (ends : List ℕ) (xs ys : List X) (n : ℕ) → AreEndsOf from ends (length xs) → n ≡ length (xs ++ ys) →
    cut_at from (ends ++ n ∷ []) (xs ++ ys) ≡ cut_at from ends xs ++ ys ∷ []
cut-push from [] xs ys n are is =
    let size : length ys ≤ n - from = omega (arith, length-append xs ys) in
    ap (λ x. x ∷ []) (ap (take (n - from)) (drop_at xs ys from (sym are)) ∙ take_all (n - from) ys size)
cut-push from (e ∷ es) xs ys n are is =
    let low : e ≤ length xs = at-most e es (length xs) are.1 in
    let size : e - from ≤ length (drop from xs) = omega (arith, length-drop from xs, are.0) in
    let head : take (e - from) (drop from (xs ++ ys)) ≡ take (e - from) (drop from xs) =
    ap (take (e - from)) (drop-append-le from xs ys (omega (arith, are.0))) ∙ take-append-le (e - from) (drop from xs) ys size in
    rw (head, cut-push e es xs ys n are.1 is) refl

pub ends-push : (from : ℕ) (ends : List ℕ) (m n : ℕ) → AreEndsOf from ends m → m ≤ n → AreEndsOf from (ends ++ n ∷ []) n
ends-push from [] m n are h = (omega (arith, are), refl)
ends-push from (e ∷ es) m n are h = (are.0, ends-push e es m n are.1 h)

-- the first k lists
pub begin-within : (from : ℕ) (ends : List ℕ) (n k : ℕ) → AreEndsOf from ends n → k ≤ length ends → (from ≤ begin_of from ends k) × (begin_of from ends k ≤ n)
begin-within from ends n zero are h = (omega arith, at-most from ends n are)
begin-within from [] n (suc k) are h = absurd (omega arith)
begin-within from (e ∷ es) n (suc zero) are h = (are.0, at-most e es n are.1)
begin-within from (e ∷ es) n (suc (suc k)) are h =
    let w = begin-within e es n (suc k) are.1 (omega arith) in
    (omega (arith, are.0, w.0), w.1)

pub ends-take : (from : ℕ) (ends : List ℕ) (n k : ℕ) → AreEndsOf from ends n → k ≤ length ends → AreEndsOf from (take k ends) (begin_of from ends k)
ends-take from ends n zero are h = refl
ends-take from [] n (suc k) are h = absurd (omega arith)
ends-take from (e ∷ es) n (suc zero) are h = (are.0, refl)
ends-take from (e ∷ es) n (suc (suc k)) are h = (are.0, ends-take e es n (suc k) are.1 (omega arith))

take-part : {X : Type 0} (from end m : ℕ) (xs : List X) → from ≤ end → end ≤ m → take (end - from) (drop from (take m xs)) ≡ take (end - from) (drop from xs)
take-part from end m xs h l =
    let e : m ≡ from + (m - from) = omega arith in
    ap (λ k. take (end - from) (drop from (take k xs))) e ∙ (ap (take (end - from)) (drop-take from (m - from) xs) ∙ take-take (end - from) (m - from) (drop from xs) (omega arith))

cut-under : {X : Type 0} (from : ℕ) (ends : List ℕ) (xs : List X) (n m : ℕ) → AreEndsOf from ends n → n ≤ m → cut_at from ends (take m xs) ≡ cut_at from ends xs
cut-under from [] xs n m are h = refl
cut-under from (e ∷ es) xs n m are h =
    let low : e ≤ m = omega (arith, at-most e es n are.1) in
    rw (take-part from e m xs are.0 low, cut-under e es xs n m are.1 h) refl

take-cut : {X : Type 0} (from : ℕ) (ends : List ℕ) (xs : List X) (k : ℕ) → cut_at from (take k ends) xs ≡ take k (cut_at from ends xs)
take-cut from ends xs zero = refl
take-cut from [] xs (suc k) = refl
take-cut from (e ∷ es) xs (suc k) = ap (λ x. take (e - from) (drop from xs) ∷ x) (take-cut e es xs k)

pub cut-take : {X : Type 0} (from : ℕ) (ends : List ℕ) (xs : List X) (n k : ℕ) → AreEndsOf from ends n → k ≤ length ends →
    cut_at from (take k ends) (take (begin_of from ends k) xs) ≡ take k (cut_at from ends xs)
cut-take from ends xs n k are h =
    cut-under from (take k ends) xs (begin_of from ends k) (begin_of from ends k) (ends-take from ends n k are h) (omega arith) ∙ take-cut from ends xs k

-- what a push and a cut leave
pub after-push : {X : Type 0} (ends new_ends : List ℕ) (xs new ys : List X) (n : ℕ) → AreEndsOf 0 ends (length xs) → new ≡ xs ++ ys → n ≡ length new → new_ends ≡ ends ++ n ∷ [] →
    AreEndsOf 0 new_ends (length new) × (cut_at 0 new_ends new ≡ cut_at 0 ends xs ++ ys ∷ [])
after-push ends new_ends xs new ys n are grown is pushed =
    let size : n ≡ length (xs ++ ys) = is ∙ ap length grown in
    let more : AreEndsOf 0 (ends ++ n ∷ []) n = ends-push 0 ends (length xs) n are (omega (arith, size, length-append xs ys)) in (
      subst (λ (k : ℕ). AreEndsOf 0 new_ends k) is (subst (λ (es : List ℕ). AreEndsOf 0 es n) (sym pushed) more),
      rw (pushed, grown) (cut-push 0 ends xs ys n are size),
    )

pub after-cut : {X : Type 0} (ends new_ends : List ℕ) (xs new : List X) (k n : ℕ) → AreEndsOf 0 ends (length xs) → k ≤ length ends → n ≡ begin_of 0 ends k → new_ends ≡ take k ends → new ≡ take n xs →
    AreEndsOf 0 new_ends (length new) × (cut_at 0 new_ends new ≡ take k (cut_at 0 ends xs))
after-cut ends new_ends xs new k n are h begins taken cut =
    let size : length new ≡ begin_of 0 ends k = ap length cut ∙ (length-take-le n xs (rw begins (begin-within 0 ends (length xs) k are h).1) ∙ begins) in (
      subst (λ (m : ℕ). AreEndsOf 0 new_ends m) (sym size) (subst (λ (es : List ℕ). AreEndsOf 0 es (begin_of 0 ends k)) (sym taken) (ends-take 0 ends (length xs) k are h)),
      rw (taken, cut, begins) (cut-take 0 ends xs (length xs) k are h),
    )

pub kept : {X : Type 0} (old more new : List X) → new ≡ old ++ more → take (length old) new ≡ old
kept old more new is = ap (take (length old)) is ∙ take_at old more (length old) refl

-- an index of a list of lists is one of its ends
pub within-ends : {X : Type 0} (ends : List ℕ) (xs : List X) (view : List (List X)) → cut_at 0 ends xs ≡ view → length view ≡ length ends
within-ends ends xs view is = ap length (sym is) ∙ length-cut 0 ends xs

-- the list at an index, by where it begins and ends
pub part-is : {X : Type 0} (ends : List ℕ) (xs : List X) (view : List (List X)) (i from to : ℕ) → cut_at 0 ends xs ≡ view → i < length ends → from ≡ begin_of 0 ends i → to ≡ get_or ends i 0 →
    take (to - from) (drop from xs) ≡ get_or view i []
part-is ends xs view i from to is h begins ends_at = rw (begins, ends_at) (sym (cut-at 0 ends xs i h)) ∙ ap (λ v. get_or v i []) is

pub part-within : (ends : List ℕ) (n i from to : ℕ) → AreEndsOf 0 ends n → i < length ends → from ≡ begin_of 0 ends i → to ≡ get_or ends i 0 → (from ≤ to) × (to ≤ n)
part-within ends n i from to are h begins ends_at = rw (begins, ends_at) (end-within 0 ends n i are h)

-- slices that don't differ are equal
pub same-slices : (x y : List ℕ) (differ : Bool) → differ ≡ not (pointwise nat_eq x y) → differ ≡ false → x ≡ y
same-slices x y differ is off = (pointwise_decides Decides-eqb x y).0 (not-false (pointwise nat_eq x y) (sym is ∙ off))

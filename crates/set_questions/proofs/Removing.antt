-- A list without an item, or with an item changed, taken item by item.
use Rattle.std.proofs.Common.{◌≡◌, ◌+◌, ◌-◌, ◌<◌, ◌≤◌, ℕ, suc, zero, List, [], ◌∷◌, ◌++◌, length, get_or, drop, map, Bool, true, false, if◌then◌else◌, refl, ap, sym, ◌∙◌, arith}
use Rattle.std.proofs.Math.Seq.{drop-cons}
use Rattle.std.proofs.lemmas.List.{append_assoc, map-append}
use Rattle.set_questions.specs.Removal.{change_item, without_item}

-- ---- of number 0, and behind the number, nothing goes

pub without-none : {T : Type 0} (xs : List T) → without_item 0 xs ≡ xs
without-none [] = refl
without-none (x ∷ xs) = refl

pub change-none : {T : Type 0} (f : T → T) (xs : List T) → change_item f 0 xs ≡ xs
change-none f [] = refl
change-none f (x ∷ xs) = refl

-- ---- at the front

without-front : {T : Type 0} (n : ℕ) (one : Bool) (x : T) (xs : List T) → (one ≡ true → n ≡ 1) → (n ≡ 1 → one ≡ true) →
    without_item n (x ∷ xs) ≡ (if one then [] else x ∷ []) ++ without_item (n - 1) xs
without-front zero true x xs is back = absurd (let e = is refl in omega (arith, e))
without-front zero false x xs is back = ap (λ ys. x ∷ ys) (sym (without-none xs))
without-front (suc zero) true x xs is back = sym (without-none xs)
without-front (suc zero) false x xs is back = absurd (let e = back refl in cc)
without-front (suc (suc n)) true x xs is back = absurd (let e = is refl in omega (arith, e))
without-front (suc (suc n)) false x xs is back = let e : suc (suc n) - 1 ≡ suc n = omega arith in rw e refl

change-front : {T : Type 0} (f : T → T) (n : ℕ) (one : Bool) (x : T) (xs : List T) → (one ≡ true → n ≡ 1) → (n ≡ 1 → one ≡ true) →
    change_item f n (x ∷ xs) ≡ (if one then f x else x) ∷ change_item f (n - 1) xs
change-front f zero true x xs is back = absurd (let e = is refl in omega (arith, e))
change-front f zero false x xs is back = ap (λ ys. x ∷ ys) (sym (change-none f xs))
change-front f (suc zero) true x xs is back = ap (λ ys. f x ∷ ys) (sym (change-none f xs))
change-front f (suc zero) false x xs is back = absurd (let e = back refl in cc)
change-front f (suc (suc n)) true x xs is back = absurd (let e = is refl in omega (arith, e))
change-front f (suc (suc n)) false x xs is back = let e : suc (suc n) - 1 ≡ suc n = omega arith in rw e refl

-- ---- from an index on

pub without-next : {T : Type 0} (n i : ℕ) (one : Bool) (kept whole xs : List T) (x : T) → i < length xs → (one ≡ true → n ≡ 1) → (n ≡ 1 → one ≡ true) →
    kept ++ without_item n (drop i xs) ≡ whole → (kept ++ (if one then [] else get_or xs i x ∷ [])) ++ without_item (n - 1) (drop (i + 1) xs) ≡ whole
without-next n i one kept whole xs x h is back so_far =
    let e : i + 1 ≡ suc i = omega arith in
    let here : without_item n (drop i xs) ≡ (if one then [] else get_or xs i x ∷ []) ++ without_item (n - 1) (drop (i + 1) xs) =
    rw (e, drop-cons xs i x h) (without-front n one (get_or xs i x) (drop (suc i) xs) is back) in
    append_assoc kept (if one then [] else get_or xs i x ∷ []) (without_item (n - 1) (drop (i + 1) xs)) ∙ ap (λ ys. kept ++ ys) (sym here) ∙ so_far

-- the same of what the items become
mapped-own : {S T : Type 0} (f : S → T) (one : Bool) (x : S) → map f (if one then [] else x ∷ []) ≡ (if one then [] else f x ∷ [])
mapped-own f true x = refl
mapped-own f false x = refl

pub mapped-next : {S T : Type 0} (f : S → T) (n i : ℕ) (one : Bool) (kept whole : List T) (xs : List S) (x : S) → i < length xs → (one ≡ true → n ≡ 1) → (n ≡ 1 → one ≡ true) →
    kept ++ map f (without_item n (drop i xs)) ≡ whole → (kept ++ (if one then [] else f (get_or xs i x) ∷ [])) ++ map f (without_item (n - 1) (drop (i + 1) xs)) ≡ whole
mapped-next f n i one kept whole xs x h is back so_far =
    let e : i + 1 ≡ suc i = omega arith in
    let y = get_or xs i x in
    let here : without_item n (drop i xs) ≡ (if one then [] else y ∷ []) ++ without_item (n - 1) (drop (i + 1) xs) =
    rw (e, drop-cons xs i x h) (without-front n one y (drop (suc i) xs) is back) in
    let there : map f (without_item n (drop i xs)) ≡ (if one then [] else f y ∷ []) ++ map f (without_item (n - 1) (drop (i + 1) xs)) =
    ap (λ ys. map f ys) here ∙ map-append f (if one then [] else y ∷ []) (without_item (n - 1) (drop (i + 1) xs)) ∙ ap (λ ys. ys ++ map f (without_item (n - 1) (drop (i + 1) xs))) (mapped-own f one y) in
    append_assoc kept (if one then [] else f y ∷ []) (map f (without_item (n - 1) (drop (i + 1) xs))) ∙ ap (λ ys. kept ++ ys) (sym there) ∙ so_far

pub change-next : {T : Type 0} (f : T → T) (n i : ℕ) (one : Bool) (kept whole xs : List T) (x : T) → i < length xs → (one ≡ true → n ≡ 1) → (n ≡ 1 → one ≡ true) →
    kept ++ change_item f n (drop i xs) ≡ whole → (kept ++ (if one then f (get_or xs i x) else get_or xs i x) ∷ []) ++ change_item f (n - 1) (drop (i + 1) xs) ≡ whole
change-next f n i one kept whole xs x h is back so_far =
    let e : i + 1 ≡ suc i = omega arith in
    let here : change_item f n (drop i xs) ≡ (if one then f (get_or xs i x) else get_or xs i x) ∷ change_item f (n - 1) (drop (i + 1) xs) =
    rw (e, drop-cons xs i x h) (change-front f n one (get_or xs i x) (drop (suc i) xs) is back) in
    append_assoc kept ((if one then f (get_or xs i x) else get_or xs i x) ∷ []) (change_item f (n - 1) (drop (i + 1) xs)) ∙ ap (λ ys. kept ++ ys) (sym here) ∙ so_far

-- Two lists that go item by item.
use Rattle.std.proofs.Common.{◌≡◌, ◌+◌, ℕ, suc, zero, List, [], ◌∷◌, ◌++◌, slice_get, take, Some, sym, subst, arith}
use Rattle.std.specs.List.{AllZip}
use Rattle.std.proofs.lemmas.Option.{same_Some}
use Rattle.set_questions.specs.Removal.{without_item}

-- one more
pub zip-next : {S T : Type 0} (R : S → T → Type 0) (i : ℕ) (xs : List S) (ys : List T) (x : S) (y : T) → slice_get xs i ≡ Some x → R x y → AllZip R (take i xs) ys → AllZip R (take (i + 1) xs) (ys ++ y ∷ [])
zip-next R i [] ys x y at r both = absurd (cc)
zip-next R zero (z ∷ xs) [] x y at r both = (subst (λ w. R w y) (sym (same_Some z x at)) r, tt)
zip-next R zero (z ∷ xs) (w ∷ ys) x y at r both = absurd both
zip-next R (suc i) (z ∷ xs) [] x y at r both = absurd both
zip-next R (suc i) (z ∷ xs) (w ∷ ys) x y at r both =
    let e : suc i + 1 ≡ suc (i + 1) = omega arith in
    rw e (both.0, zip-next R i xs ys x y at r both.1)

pub zip-without : {S T : Type 0} (R : S → T → Type 0) (n : ℕ) (xs : List S) (ys : List T) → AllZip R xs ys → AllZip R (without_item n xs) (without_item n ys)
zip-without R n [] [] both = tt
zip-without R n [] (y ∷ ys) both = absurd both
zip-without R n (x ∷ xs) [] both = absurd both
zip-without R zero (x ∷ xs) (y ∷ ys) both = both
zip-without R (suc zero) (x ∷ xs) (y ∷ ys) both = both.1
zip-without R (suc (suc n)) (x ∷ xs) (y ∷ ys) both = (both.0, zip-without R (suc n) xs ys both.1)

pub zip-at : {S T : Type 0} (R : S → T → Type 0) (xs : List S) (ys : List T) (i : ℕ) (x : S) (y : T) → AllZip R xs ys → slice_get xs i ≡ Some x → slice_get ys i ≡ Some y → R x y
zip-at R [] [] i x y both here there = absurd (cc)
zip-at R [] (z ∷ ys) i x y both here there = absurd both
zip-at R (z ∷ xs) [] i x y both here there = absurd both
zip-at R (z ∷ xs) (w ∷ ys) zero x y both here there = subst (λ a. R a y) (same_Some z x here) (subst (λ b. R z b) (same_Some w y there) both.0)
zip-at R (z ∷ xs) (w ∷ ys) (suc i) x y both here there = zip-at R xs ys i x y both.1 here there

pub zip-moved : {S T : Type 0} (R Q : S → T → Type 0) → ((x : S) (y : T) → R x y → Q x y) → (xs : List S) (ys : List T) → AllZip R xs ys → AllZip Q xs ys
zip-moved R Q moves [] [] both = tt
zip-moved R Q moves [] (y ∷ ys) both = absurd both
zip-moved R Q moves (x ∷ xs) [] both = absurd both
zip-moved R Q moves (x ∷ xs) (y ∷ ys) both = (moves x y both.0, zip-moved R Q moves xs ys both.1)

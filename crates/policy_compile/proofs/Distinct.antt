-- Lists in which nothing stands twice: what they sum up to within longer ones.
use Rattle.std.proofs.Common.{◌≡◌, ◌≤◌, ◌+◌, ℕ, zero, suc, List, [], ◌∷◌, ◌++◌, length, get_or, ◌<◌, refl, ap, sym, ◌∙◌, subst, inl, inr, ◌⊎◌, arith}
use Rattle.std.specs.Prelude.{⊤, Contains, sum_by}
use Rattle.std.proofs.lemmas.List.Elements.{Contains-append_cases, Contains-append_left, Contains-append_right}
use Rattle.std.proofs.lemmas.List.Sums.{sum_by-append, sum_by-cons}

-- nothing stands in the list twice
abbrev pub IsApart : {T : Type 0} → List T → Type 0
IsApart [] = ⊤
IsApart (x ∷ xs) = (¬ Contains xs x) × IsApart xs

pub here : {T : Type 0} (x : T) (xs : List T) → Contains (x ∷ xs) x
here x xs = (0, omega arith, refl)

pub later : {T : Type 0} (x : T) (xs : List T) (y : T) → Contains xs y → Contains (x ∷ xs) y
later x xs y at = (suc at.0, omega (arith, at.1), at.2)

nothing-in : {T : Type 0} (y : T) → ¬ Contains [] y
nothing-in y at = let none = at.1 in omega arith

split-index : {T : Type 0} (x : T) (xs : List T) (y : T) (k : ℕ) → k < length (x ∷ xs) → get_or (x ∷ xs) k y ≡ y → (x ≡ y) ⊎ Contains xs y
split-index x xs y zero within is = inl is
split-index x xs y (suc k) within is = inr (k, omega arith, is)

pub split : {T : Type 0} (x : T) (xs : List T) (y : T) → Contains (x ∷ xs) y → (x ≡ y) ⊎ Contains xs y
split x xs y at = split-index x xs y at.0 at.1 at.2

-- an item that isn't had is added at the end
pub apart-more : {T : Type 0} (xs : List T) (y : T) → IsApart xs → ¬ Contains xs y → IsApart (xs ++ y ∷ [])
apart-more [] y apart new = (nothing-in y, tt)
apart-more (x ∷ xs) y apart new = (
  λ at. elim (Contains-append_cases xs (y ∷ []) x at) [
    | inl had ↦ apart.0 had
    | inr last ↦ elim (split y [] x last) [ inl same ↦ new (subst (λ z. Contains (x ∷ xs) z) (sym same) (here x xs)) | inr none ↦ nothing-in x none ]
  ],
  apart-more xs y apart.1 (λ at. new (later x xs y at)),
)

-- a list cut at an item
record Cut {T : Type 0} (xs : List T) (y : T) : Type 0 where
  front : List T
  back : List T
  is : xs ≡ front ++ y ∷ back

cut : {T : Type 0} (xs : List T) (y : T) → Contains xs y → Cut xs y
cut [] y at = absurd (nothing-in y at)
cut (x ∷ xs) y at = elim (split x xs y at) [
  | inl same ↦ record { front = []; back = xs; is = ap (λ z. z ∷ xs) same }
  | inr more ↦ let rest = cut xs y more in record { front = x ∷ rest.front; back = rest.back; is = ap (λ zs. x ∷ zs) rest.is }
]

-- an item other than the one that is cut out stands before or behind it
beside : {T : Type 0} (front back : List T) (y z : T) → ¬ (y ≡ z) → Contains (front ++ y ∷ back) z → Contains (front ++ back) z
beside front back y z other at = elim (Contains-append_cases front (y ∷ back) z at) [
  | inl before ↦ Contains-append_left front back z before
  | inr behind ↦ elim (split y back z behind) [ inl same ↦ absurd (other same) | inr more ↦ Contains-append_right front back z more ]
]

cut-sum : {T : Type 0} (f : T → ℕ) (front back : List T) (y : T) → sum_by f (front ++ y ∷ back) ≡ f y + sum_by f (front ++ back)
cut-sum f front back y =
    let whole = sum_by-append f front (y ∷ back) in
    let inside = sum_by-cons f y back in
    let less = sum_by-append f front back in
    omega (arith, whole, inside, less)

-- a list in which nothing stands twice sums up to at most what a list sums up to that has all of its items
pub sum-within : {T : Type 0} (f : T → ℕ) (xs ys : List T) → IsApart xs → ((t : T) → Contains xs t → Contains ys t) → sum_by f xs ≤ sum_by f ys
sum-within f [] ys apart within = omega arith
sum-within {T} f (x ∷ xs) ys apart within =
    let at : Cut ys x = cut ys x (within x (here x xs)) in
    let rest : sum_by f xs ≤ sum_by f (at.front ++ at.back) = sum-within f xs (at.front ++ at.back) apart.1
    (λ t had. beside at.front at.back x t (λ same. apart.0 (subst (λ (z : T). Contains xs z) (sym same) had)) (subst (λ (zs : List T). Contains zs t) at.is (within t (later x xs t had)))) in
    let whole : sum_by f ys ≡ f x + sum_by f (at.front ++ at.back) = ap (sum_by f) at.is ∙ cut-sum f at.front at.back x in
    let own = sum_by-cons f x xs in
    omega (arith, rest, whole, own)

ones : {T : Type 0} (xs : List T) → sum_by (λ x. 1) xs ≡ length xs
ones [] = refl
ones (x ∷ xs) = let own = sum_by-cons (λ x. 1) x xs in let rest = ones xs in omega (arith, own, rest)

-- and has at most as many items
pub length-within : {T : Type 0} (xs ys : List T) → IsApart xs → ((t : T) → Contains xs t → Contains ys t) → length xs ≤ length ys
length-within xs ys apart within =
    let sums : sum_by (λ x. 1) xs ≤ sum_by (λ x. 1) ys = sum-within (λ x. 1) xs ys apart within in
    let first = ones xs in
    let second = ones ys in
    omega (arith, sums, first, second)

-- What holds of some item of a list.
use Rattle.std.proofs.Common.{◌≡◌, ◌<◌, ◌⊎◌, ◌↔◌, ℕ, zero, suc, List, [], ◌∷◌, length, get_or, map, Any, refl, sym, subst, inl, inr, arith}

pub Any-nil : {T : Type 0} (P : T → Type 0) → ¬ Any P []
Any-nil P h = let none = h.2 in omega arith

pub Any-here : {T : Type 0} (P : T → Type 0) (x : T) (xs : List T) → P x → Any P (x ∷ xs)
Any-here P x xs h = (0, x, omega arith, refl, h)

pub Any-later : {T : Type 0} (P : T → Type 0) (x : T) (xs : List T) → Any P xs → Any P (x ∷ xs)
Any-later P x xs h = (suc h.0, h.1, omega arith, h.3, h.4)

Any-index : {T : Type 0} (P : T → Type 0) (x : T) (xs : List T) (k : ℕ) (y : T) → k < length (x ∷ xs) → get_or (x ∷ xs) k y ≡ y → P y → P x ⊎ Any P xs
Any-index P x xs zero y within is h = inl (subst P (sym is) h)
Any-index P x xs (suc k) y within is h = inr (k, y, omega arith, is, h)

pub Any-split : {T : Type 0} (P : T → Type 0) (x : T) (xs : List T) → Any P (x ∷ xs) → P x ⊎ Any P xs
Any-split P x xs h = Any-index P x xs h.0 h.1 h.2 h.3 h.4

-- some item that a function gave
pub Any-map : {S T : Type 0} (P : T → Type 0) (f : S → T) (xs : List S) → Any P (map f xs) ↔ Any (λ x. P (f x)) xs
Any-map P f [] = (λ h. absurd (Any-nil P h), λ h. absurd (Any-nil (λ x. P (f x)) h))
Any-map P f (x ∷ xs) = (
  λ h. elim (Any-split P (f x) (map f xs) h) [
    | inl here ↦ Any-here (λ y. P (f y)) x xs here
    | inr later ↦ Any-later (λ y. P (f y)) x xs ((Any-map P f xs).0 later)
  ],
  λ h. elim (Any-split (λ y. P (f y)) x xs h) [
    | inl here ↦ Any-here P (f x) (map f xs) here
    | inr later ↦ Any-later P (f x) (map f xs) ((Any-map P f xs).1 later)
  ],
)

-- where it is decided of each item, it is decided of the list
pub Any-decided : {T : Type 0} (P : T → Type 0) → ((x : T) → P x ⊎ ¬ P x) → (xs : List T) → Any P xs ⊎ ¬ Any P xs
Any-decided P each [] = inr (Any-nil P)
Any-decided P each (x ∷ xs) =
    elim (each x) [
      | inl here ↦ inl (Any-here P x xs here)
      | inr not ↦ elim (Any-decided P each xs) [
        | inl later ↦ inl (Any-later P x xs later)
        | inr none ↦ inr (λ h. elim (Any-split P x xs h) [ inl here ↦ not here | inr later ↦ none later ])
      ]
    ]

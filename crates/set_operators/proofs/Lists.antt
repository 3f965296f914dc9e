-- Elements of lists: some that have a property, and what each has.
use Rattle.std.proofs.Common.{◌≡◌, ◌↔◌, ◌⊎◌, inl, inr, ℕ, zero, suc, ◌+◌, ◌<◌, List, [], ◌∷◌, ◌++◌, length, drop, flat_map, get_or, All, Any, Contains, refl, sym, subst, arith}
use Rattle.std.proofs.lemmas.List.Elements.{All-nil, All-cons, All-head, All-tail}

pub any-here : {X : Type 0} (P : X → Type 0) (x : X) (xs : List X) → P x → Any P (x ∷ xs)
any-here P x xs p = (0, x, omega arith, refl, p)

pub any-there : {X : Type 0} (P : X → Type 0) (x : X) (xs : List X) → Any P xs → Any P (x ∷ xs)
any-there P x xs w = (suc w.0, w.1, omega (arith, w.2), w.3, w.4)

pub any-nil : {X : Type 0} (P : X → Type 0) → Any P [] → ⊥
any-nil P w = omega (arith, w.2)

any-at : {X : Type 0} (P : X → Type 0) (x : X) (xs : List X) (k : ℕ) (y : X) → k < length (x ∷ xs) → get_or (x ∷ xs) k y ≡ y → P y → P x ⊎ Any P xs
any-at P x xs zero y h e p = inl (subst P (sym e) p)
any-at P x xs (suc k) y h e p = inr (k, y, omega arith, e, p)

pub any-cases : {X : Type 0} (P : X → Type 0) (x : X) (xs : List X) → Any P (x ∷ xs) → P x ⊎ Any P xs
any-cases P x xs w = any-at P x xs w.0 w.1 w.2 w.3 w.4

pub any-one : {X : Type 0} (P : X → Type 0) (x : X) → Any P (x ∷ []) → P x
any-one P x w = elim (any-cases P x [] w) [ inl p ↦ p | inr v ↦ absurd (any-nil P v) ]

-- the element that has it
pub any-element : {X : Type 0} (P : X → Type 0) (xs : List X) → Any P xs → (x : X) × Contains xs x × P x
any-element P xs w = (w.1, (w.0, w.2, w.3), w.4)

pub element-any : {X : Type 0} (P : X → Type 0) (xs : List X) (x : X) → Contains xs x → P x → Any P xs
element-any P xs x c p = (c.0, x, c.1, c.2, p)

pub any-left : {X : Type 0} (P : X → Type 0) (xs ys : List X) → Any P xs → Any P (xs ++ ys)
any-left P [] ys w = absurd (any-nil P w)
any-left P (x ∷ xs) ys w = elim (any-cases P x xs w) [ inl p ↦ any-here P x (xs ++ ys) p | inr v ↦ any-there P x (xs ++ ys) (any-left P xs ys v) ]

pub any-right : {X : Type 0} (P : X → Type 0) (xs ys : List X) → Any P ys → Any P (xs ++ ys)
any-right P [] ys w = w
any-right P (x ∷ xs) ys w = any-there P x (xs ++ ys) (any-right P xs ys w)

pub any-append : {X : Type 0} (P : X → Type 0) (xs ys : List X) → Any P (xs ++ ys) → Any P xs ⊎ Any P ys
any-append P [] ys w = inr w
any-append P (x ∷ xs) ys w = elim (any-cases P x (xs ++ ys) w) [ inl p ↦ inl (any-here P x xs p) | inr v ↦ elim (any-append P xs ys v) [ inl a ↦ inl (any-there P x xs a) | inr b ↦ inr b ] ]

-- some of the elements that come of others
pub any-spread : {X Y : Type 0} (P : X → Type 0) (Q : Y → Type 0) (f : Y → List X) → ((y : Y) → Q y ↔ Any P (f y)) → (ys : List Y) → Any Q ys ↔ Any P (flat_map f ys)
any-spread P Q f is [] = (λ w. absurd (any-nil Q w), λ w. absurd (any-nil P w))
any-spread P Q f is (y ∷ ys) = (
  λ w. elim (any-cases Q y ys w) [ inl q ↦ any-left P (f y) (flat_map f ys) ((is y).0 q) | inr v ↦ any-right P (f y) (flat_map f ys) ((any-spread P Q f is ys).0 v) ],
  λ w. elim (any-append P (f y) (flat_map f ys) w) [ inl a ↦ any-here Q y ys ((is y).1 a) | inr b ↦ any-there Q y ys ((any-spread P Q f is ys).1 b) ],
)

-- where some has it, if it is not so that none has, for a property that is tested
pub any-stable : {X : Type 0} (P : X → Type 0) → ((x : X) → P x ⊎ (P x → ⊥)) → (xs : List X) → ((Any P xs → ⊥) → ⊥) → Any P xs
any-stable P d [] h = absurd (h (any-nil P))
any-stable P d (x ∷ xs) h =
    elim (d x) [
      | inl p ↦ any-here P x xs p
      | inr n ↦ any-there P x xs (any-stable P d xs (λ none. h (λ w. elim (any-cases P x xs w) [ inl p ↦ n p | inr v ↦ none v ])))
    ]

pub all-left : {X : Type 0} (P : X → Type 0) (xs ys : List X) → All P (xs ++ ys) → All P xs
all-left P [] ys a = All-nil P
all-left P (x ∷ xs) ys a = All-cons P x xs (All-head P x (xs ++ ys) a) (all-left P xs ys (All-tail P x (xs ++ ys) a))

pub all-right : {X : Type 0} (P : X → Type 0) (xs ys : List X) → All P (xs ++ ys) → All P ys
all-right P [] ys a = a
all-right P (x ∷ xs) ys a = all-right P xs ys (All-tail P x (xs ++ ys) a)

-- ---- lists from an index on

pub drop-head : {X : Type 0} (xs : List X) (i : ℕ) (x d : X) (rest : List X) → drop i xs ≡ x ∷ rest → get_or xs i d ≡ x
drop-head [] zero x d rest e = absurd (cc)
drop-head [] (suc i) x d rest e = absurd (cc)
drop-head (y ∷ xs) zero x d rest e = cc
drop-head (y ∷ xs) (suc i) x d rest e = drop-head xs i x d rest e

pub drop-tail : {X : Type 0} (xs : List X) (i : ℕ) (x : X) (rest : List X) → drop i xs ≡ x ∷ rest → drop (i + 1) xs ≡ rest
drop-tail [] zero x rest e = absurd (cc)
drop-tail [] (suc i) x rest e = absurd (cc)
drop-tail (y ∷ xs) zero x rest e = cc
drop-tail (y ∷ xs) (suc i) x rest e = let a : suc i + 1 ≡ suc (i + 1) = omega arith in rw a (drop-tail xs i x rest e)

pub drop-within : {X : Type 0} (xs : List X) (i : ℕ) (x : X) (rest : List X) → drop i xs ≡ x ∷ rest → i < length xs
drop-within [] zero x rest e = absurd (cc)
drop-within [] (suc i) x rest e = absurd (cc)
drop-within (y ∷ xs) zero x rest e = omega arith
drop-within (y ∷ xs) (suc i) x rest e = omega (arith, drop-within xs i x rest e)

pub drop-past : {X : Type 0} (all : List X) (xs rest : List X) (i : ℕ) → drop i all ≡ xs ++ rest → drop (i + length xs) all ≡ rest
drop-past all [] rest i e = let a : i + zero ≡ i = omega arith in rw a e
drop-past all (x ∷ xs) rest i e =
    let a : i + suc (length xs) ≡ (i + 1) + length xs = omega arith in
    rw a (drop-past all xs rest (i + 1) (drop-tail all i x (xs ++ rest) e))

-- What holds of some item of lists one behind the other, and of some value of a key that has one at most.
use Rattle.std.proofs.Common.{◌≡◌, ◌≤◌, ◌⊎◌, List, [], ◌∷◌, ◌++◌, length, Bool, false, Any, Contains, get_or, inl, inr, refl, subst, arith}
use Rattle.policy_model.specs.declared.value.Value.{Value}
use Rattle.policy_model.specs.Conditions.{OneMatches}
use Rattle.policy_model.proofs.Laws.{Any-nil, Any-here, Any-later, Any-split}

pub any-left : {X : Type 0} (P : X → Type 0) (xs ys : List X) → Any P xs → Any P (xs ++ ys)
any-left P [] ys w = absurd (Any-nil P w)
any-left P (x ∷ xs) ys w = elim (Any-split P x xs w) [ inl here ↦ Any-here P x (xs ++ ys) here | inr later ↦ Any-later P x (xs ++ ys) (any-left P xs ys later) ]

pub any-right : {X : Type 0} (P : X → Type 0) (xs ys : List X) → Any P ys → Any P (xs ++ ys)
any-right P [] ys w = w
any-right P (x ∷ xs) ys w = Any-later P x (xs ++ ys) (any-right P xs ys w)

pub any-append : {X : Type 0} (P : X → Type 0) (xs ys : List X) → Any P (xs ++ ys) → Any P xs ⊎ Any P ys
any-append P [] ys w = inr w
any-append P (x ∷ xs) ys w =
    elim (Any-split P x (xs ++ ys) w) [
      | inl here ↦ inl (Any-here P x xs here)
      | inr later ↦ elim (any-append P xs ys later) [ inl front ↦ inl (Any-later P x xs front) | inr behind ↦ inr behind ]
    ]

pub any-one : {X : Type 0} (P : X → Type 0) (x : X) → Any P (x ∷ []) → P x
any-one P x w = elim (Any-split P x [] w) [ inl here ↦ here | inr later ↦ absurd (Any-nil P later) ]

pub any-weaker : {X : Type 0} (P Q : X → Type 0) → ((x : X) → P x → Q x) → (xs : List X) → Any P xs → Any Q xs
any-weaker P Q f xs w = (w.0, w.1, w.2, w.3, f w.1 w.4)

-- an item of a list is some item that is equal to it
pub contains-any : {X : Type 0} (xs : List X) (x : X) → Contains xs x → Any (λ y. y ≡ x) xs
contains-any xs x c = (c.0, x, c.1, c.2, refl)

pub any-contains : {X : Type 0} (xs : List X) (x : X) → Any (λ y. y ≡ x) xs → Contains xs x
any-contains xs x w = (w.0, w.2, subst (λ y. get_or xs w.0 y ≡ y) w.4 w.3)

-- ---- one value at most

-- of each item it is said which values meet it
module _ {X : Type 0} (Q : X → Value → Type 0) (xs : List X) where
  -- some item is met by the one value
  abbrev pub Meets : Value → Type 0
  Meets v = Any (λ x. Q x v) xs

  -- some item is met by some value
  abbrev pub IsMet : List Value → Type 0
  IsMet values = Any (λ x. Any (Q x) values) xs

  pub met-by-one : (values : List Value) → OneMatches false Meets values → IsMet values
  met-by-one [] one = absurd (cc)
  met-by-one (v ∷ []) one = any-weaker (λ x. Q x v) (λ x. Any (Q x) (v ∷ [])) (λ x q. Any-here (Q x) v [] q) xs one
  met-by-one (v ∷ w ∷ more) one = absurd one

  pub one-meets : (values : List Value) → length values ≤ 1 → IsMet values → OneMatches false Meets values
  one-meets [] few met = absurd (Any-nil (Q met.1) met.4)
  one-meets (v ∷ []) few met = any-weaker (λ x. Any (Q x) (v ∷ [])) (λ x. Q x v) (λ x some. any-one (Q x) v some) xs met
  one-meets (v ∷ w ∷ more) few met = absurd (omega arith)

-- the one value matches in another sense
pub one-weaker : (negated : Bool) (P Q : Value → Type 0) → ((v : Value) → P v → Q v) → (values : List Value) → OneMatches negated P values → OneMatches negated Q values
one-weaker negated P Q f [] one = one
one-weaker negated P Q f (v ∷ []) one = f v one
one-weaker negated P Q f (v ∷ w ∷ more) one = one

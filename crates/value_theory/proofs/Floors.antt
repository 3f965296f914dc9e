-- The greatest of finitely many points that a value has reached.
use Rattle.std.proofs.Common.{◌≡◌, suc, List, [], ◌∷◌, ◌++◌, ◌⊎◌, Contains, refl, sym, inl, inr, arith}

-- x is one of the list
abbrev pub In : {A : Type 0} → A → List A → Type 0
In x [] = ⊥
In x (y ∷ ys) = (x ≡ y) ⊎ In x ys

module _ {A : Type 0} where
  pub In-left : (x : A) (xs ys : List A) → In x xs → In x (xs ++ ys)
  In-left x [] ys m = elim m [ ]
  In-left x (y ∷ xs) ys (inl e) = inl e
  In-left x (y ∷ xs) ys (inr m) = inr (In-left x xs ys m)

  pub In-right : (x : A) (xs ys : List A) → In x ys → In x (xs ++ ys)
  In-right x [] ys m = m
  In-right x (y ∷ xs) ys m = inr (In-right x xs ys m)

  pub Contains-In : (x : A) (xs : List A) → In x xs → Contains xs x
  Contains-In x [] m = elim m [ ]
  Contains-In x (y ∷ xs) (inl e) = (0, omega arith, sym e)
  Contains-In x (y ∷ xs) (inr m) = let (k, within, at) = Contains-In x xs m in (suc k, omega arith, at)

-- s has reached each point that v has
abbrev pub AllReached : {A : Type 0} → (A → A → Type 0) → List A → A → A → Type 0
AllReached Le [] s v = Unit {0}
AllReached Le (k ∷ ks) s v = (Le k v → Le k s) × AllReached Le ks s v

-- s is the greatest of the points, and of lo, that v has reached
pub record IsFloor {A : Type 0} (Le : A → A → Type 0) (lo : A) (ks : List A) (v s : A) : Type 0 where
  pub listed : In s (lo ∷ ks)
  pub least : Le lo s
  pub below : Le s v
  pub reached : AllReached Le ks s v

skip : {A : Type 0} → (lo k s : A) (ks : List A) → In s (lo ∷ ks) → In s (lo ∷ k ∷ ks)
skip lo k s ks (inl e) = inl e
skip lo k s ks (inr m) = inr (inr m)

-- an order whose cases are known
module _ {A : Type 0} (Le : A → A → Type 0) (same : (a : A) → Le a a) (chain : (a b c : A) → Le a b → Le b c → Le a c) (cases : (a b : A) → Le a b ⊎ ((Le a b → ⊥) × Le b a)) where
  raised : (ks : List A) (s t v : A) → Le s t → AllReached Le ks s v → AllReached Le ks t v
  raised [] s t v up h = tt
  raised (k ∷ ks) s t v up h = (λ below. chain k s t (h.0 below) up, raised ks s t v up h.1)

  pub floor : (lo : A) (ks : List A) (v : A) → Le lo v → (s : A) × IsFloor Le lo ks v s
  floor lo [] v h = (lo, record { listed = inl refl; least = same lo; below = h; reached = tt })
  floor lo (k ∷ ks) v h =
      let (s, f) = floor lo ks v h in
      elim (cases k v) [
        | inr above ↦ (s, record { listed = skip lo k s ks f.listed; least = f.least; below = f.below; reached = (λ b. absurd (above.0 b), f.reached) })
        | inl under ↦ elim (cases k s) [
          | inl known ↦ (s, record { listed = skip lo k s ks f.listed; least = f.least; below = f.below; reached = (λ b. known, f.reached) })
          | inr new ↦ (k, record { listed = inr (inl refl); least = chain lo s k f.least new.1; below = under; reached = (λ b. same k, raised ks s k v new.1 f.reached) })
        ]
      ]

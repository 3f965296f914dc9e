-- How many of the numbers below one have what is decided of each.
use Rattle.std.proofs.Common.{◌≡◌, ◌⊎◌, ℕ, zero, suc, ◌+◌, ◌<◌, ◌≤◌, inl, inr, subst, arith}
use Rattle.std.proofs.lemmas.Bool.{cases_lt}

-- one for what holds
abbrev pub one-if : {P : Type 0} → P ⊎ ¬ P → ℕ
one-if (inl h) = 1
one-if (inr never) = 0

-- how many of the numbers below k have P
abbrev pub count : (k : ℕ) (P : ℕ → Type 0) → ((i : ℕ) → P i ⊎ ¬ P i) → ℕ
count zero P decided = 0
count (suc k) P decided = one-if (decided k) + count k P decided

one-less : {P Q : Type 0} (p : P ⊎ ¬ P) (q : Q ⊎ ¬ Q) → (P → Q) → one-if p ≤ one-if q
one-less (inl h) (inl g) more = omega arith
one-less (inl h) (inr never) more = absurd (never (more h))
one-less (inr h) q more = omega arith

count-less : (k : ℕ) (P Q : ℕ → Type 0) (p : (i : ℕ) → P i ⊎ ¬ P i) (q : (i : ℕ) → Q i ⊎ ¬ Q i) → ((i : ℕ) → P i → Q i) → count k P p ≤ count k Q q
count-less zero P Q p q more = omega arith
count-less (suc k) P Q p q more = omega (arith, one-less (p k) (q k) (more k), count-less k P Q p q more)

one-fewer : {P Q : Type 0} (p : P ⊎ ¬ P) (q : Q ⊎ ¬ Q) → Q → ¬ P → one-if p < one-if q
one-fewer (inl h) q there missing = absurd (missing h)
one-fewer (inr h) (inl g) there missing = omega arith
one-fewer (inr h) (inr never) there missing = absurd (never there)

-- one of those with Q has no P, so those with P are fewer
pub count-fewer : (k : ℕ) (P Q : ℕ → Type 0) (p : (i : ℕ) → P i ⊎ ¬ P i) (q : (i : ℕ) → Q i ⊎ ¬ Q i) → ((i : ℕ) → P i → Q i) → (j : ℕ) → j < k → Q j → ¬ P j → count k P p < count k Q q
count-fewer zero P Q p q more j within there missing = absurd (omega (arith, within))
count-fewer (suc k) P Q p q more j within there missing = elim (cases_lt j k) [
  | inl lower ↦ omega (arith, one-less (p k) (q k) (more k), count-fewer k P Q p q more j lower there missing)
  | inr upper ↦ (
      let same : j ≡ k = omega (arith, within, upper) in
      omega (arith, one-fewer (p k) (q k) (subst Q same there) (subst (λ (n : ℕ). ¬ P n) same missing), count-less k P Q p q more)
      )
]

one-at-most : {P : Type 0} (d : P ⊎ ¬ P) → one-if d ≤ 1
one-at-most (inl h) = omega arith
one-at-most (inr never) = omega arith

pub count-within : (k : ℕ) (P : ℕ → Type 0) (p : (i : ℕ) → P i ⊎ ¬ P i) → count k P p ≤ k
count-within zero P p = omega arith
count-within (suc k) P p = omega (arith, one-at-most (p k), count-within k P p)

-- Numbers that fall down to a bound.
use Rattle.std.proofs.Common.{◌<◌, ◌≤◌, ℕ, List, [], ◌∷◌, ◌++◌, arith}
use Rattle.set_operators.specs.Few.{FallBelow}

-- they fall from below n, and none is below m
abbrev pub FallBetween : ℕ → ℕ → List ℕ → Type 0
FallBetween m n [] = m ≤ n
FallBetween m n (k ∷ ks) = (k < n) × FallBetween m k ks

pub between-skip : (m i n : ℕ) (few : List ℕ) → i ≤ m → FallBetween m n few → FallBetween i n few
between-skip m i n [] le falls = omega (arith, le, falls)
between-skip m i n (k ∷ ks) le falls = (falls.0, between-skip m i k ks le falls.1)

pub between-push : (m i n : ℕ) (few : List ℕ) → i < m → FallBetween m n few → FallBetween i n (few ++ i ∷ [])
between-push m i n [] lt falls = (omega (arith, lt, falls), omega arith)
between-push m i n (k ∷ ks) lt falls = (falls.0, between-push m i k ks lt falls.1)

pub between-falls : (m n : ℕ) (few : List ℕ) → FallBetween m n few → FallBelow n few
between-falls m n [] falls = tt
between-falls m n (k ∷ ks) falls = (falls.0, between-falls m k ks falls.1)

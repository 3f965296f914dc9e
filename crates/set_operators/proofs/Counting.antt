-- Literals and clauses added one by one, and the asks that are picked.
use Rattle.std.proofs.Common.{◌≡◌, ℕ, zero, suc, ◌+◌, List, [], ◌∷◌, ◌++◌, refl, ap, append_assoc, arith}
use Rattle.set_operators.specs.Clauses.{numbered_literals, numbered_apart}

pub numbered_more : {L : Type 0} (literal : ℕ → L) (i k : ℕ) → numbered_literals literal i (k + 1) ≡ numbered_literals literal i k ++ literal (i + k) ∷ []
numbered_more literal i zero = let a : i + zero ≡ i = omega arith in rw a refl
numbered_more literal i (suc k) =
    let a : suc k + 1 ≡ suc (k + 1) = omega arith in
    let b : i + suc k ≡ (i + 1) + k = omega arith in
    rw (a, b) (ap (λ rest. literal i ∷ rest) (numbered_more literal (i + 1) k))

pub apart_more : {L : Type 0} (literal : ℕ → L) (i k : ℕ) → numbered_apart literal i (k + 1) ≡ numbered_apart literal i k ++ (literal (i + k) ∷ []) ∷ []
apart_more literal i zero = let a : i + zero ≡ i = omega arith in rw a refl
apart_more literal i (suc k) =
    let a : suc k + 1 ≡ suc (k + 1) = omega arith in
    let b : i + suc k ≡ (i + 1) + k = omega arith in
    rw (a, b) (ap (λ rest. (literal i ∷ []) ∷ rest) (apart_more literal (i + 1) k))

-- one more clause of the same sort
pub apart-push : {L : Type 0} (literal : ℕ → L) (i k : ℕ) (old now new : List (List L)) (clause : List L) → now ≡ old ++ numbered_apart literal i k →
    clause ≡ literal (i + k) ∷ [] → new ≡ now ++ clause ∷ [] → new ≡ old ++ numbered_apart literal i (k + 1)
apart-push literal i k old now new clause before is added =
    let next : numbered_apart literal i (k + 1) ≡ numbered_apart literal i k ++ (literal (i + k) ∷ []) ∷ [] = apart_more literal i k in
    rw (added, before, is, next) (append_assoc old (numbered_apart literal i k) ((literal (i + k) ∷ []) ∷ []))

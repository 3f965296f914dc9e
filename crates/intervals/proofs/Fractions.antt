-- The digits of a fraction, written one by one.
use Rattle.std.proofs.Common.{◌≡◌, ℕ, suc, ◌+◌, ◌-◌, ◌/◌, ◌%◌, ◌^◌, ◌<◌, ◌==◌, false, List, [], ◌∷◌, ◌++◌, ap, subst, sym, ◌∙◌, arith}
use mathlib.Core.List.{append_assoc}
use Rattle.std.proofs.Math.Nat.{one-le-pow, mod-lt}
use Rattle.std.proofs.lemmas.Grind.{common_steps}
use Rattle.intervals.specs.DecimalTexts.{fraction_digits}

-- a point and `done` digits of the fraction were written behind the start, and `rest` is left
pub record Writing (start : List ℕ) (units : ℕ) (text : List ℕ) (done rest : ℕ) : Type 0 where
  pub written : text ++ fraction_digits (9 - done) rest ≡ start ++ 46 ∷ fraction_digits 9 units
  pub small : rest < 10 ^ (9 - done)

pub power_positive : (k : ℕ) → 0 < 10 ^ k
power_positive k = one-le-pow k 10 (omega arith)

pub digits_next : (k n : ℕ) → 0 < n → fraction_digits (suc k) n ≡ (48 + n / 10 ^ k) ∷ fraction_digits k (n % 10 ^ k)
digits_next k n some = let e : (n == 0) ≡ false = grind (arith, common_steps) in rw e

step_at : (text whole : List ℕ) (k rest : ℕ) → 0 < rest → text ++ fraction_digits (suc k) rest ≡ whole → (text ++ (48 + rest / 10 ^ k) ∷ []) ++ fraction_digits k (rest % 10 ^ k) ≡ whole
step_at text whole k rest some h =
    append_assoc text ((48 + rest / 10 ^ k) ∷ []) (fraction_digits k (rest % 10 ^ k)) ∙ ap (λ ds. text ++ ds) (sym (digits_next k rest some)) ∙ h

pub Writing-step : (start : List ℕ) (units : ℕ) (text : List ℕ) (done rest place : ℕ) (new : List ℕ) → Writing start units text done rest → done < 9 → 0 < rest → place ≡ 10 ^ (8 - done) → new ≡ text ++ (48 + rest / place) ∷ []
    → Writing start units new (done + 1) (rest % place)
Writing-step start units text done rest place new h within some worth e =
    let here : 9 - done ≡ suc (8 - done) = omega arith in
    let next : 9 - (done + 1) ≡ 8 - done = omega arith in
    let P : ℕ → Type 0 = λ k. text ++ fraction_digits k rest ≡ start ++ 46 ∷ fraction_digits 9 units in
    let k = step_at text _ (8 - done) rest some (subst P here h.written) in
    record {
      written = rw (e, next, worth) k;
      small = rw (next, worth) (mod-lt rest (power_positive (8 - done)));
    }

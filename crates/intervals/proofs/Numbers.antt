-- A number read digit by digit is the one that the place values give.
use Rattle.std.proofs.Common.{◌≡◌, ℕ, ◌+◌, ◌-◌, ◌*◌, ◌^◌, ◌<◌, ◌≤◌, List, ◌∷◌, length, drop, get_or, Bool, true, refl, ap, subst, sym, ◌∙◌, arith, add-one, drop-cons}
use Rattle.std.proofs.Math.Nat.{pow-suc, pow-le-pow_right, one-le-pow, mul-lt-mul_of_pos_right}
use Rattle.std.proofs.lemmas.Nat.{pow-add}
use Rattle.std.proofs.lemmas.Grind.{common_steps}
use Rattle.std.specs.List.{list_all}
use Rattle.std.specs.Char.{is_ascii_digit}
use Rattle.intervals.specs.declared.units.TheConstants.{UNITS}
use Rattle.intervals.specs.Digits.{digits_number}

-- the first i digits of the text were read as n
pub record ReadSoFar (text : List ℕ) (i n : ℕ) : Type 0 where
  pub value : n * 10 ^ length (drop i text) + digits_number (drop i text) ≡ digits_number text
  pub digits : list_all is_ascii_digit (drop i text) ≡ list_all is_ascii_digit text
  pub small : n < 10 ^ i

-- one digit more, in the digits that are left
value_step : (n d rest p v : ℕ) → n * (p * 10) + (d * p + rest) ≡ v → (n * 10 + d) * p + rest ≡ v
value_step n d rest p v h = omega arith

value_at : (xs left : List ℕ) (n d v : ℕ) → xs ≡ d ∷ left → n * 10 ^ length xs + digits_number xs ≡ v → (n * 10 + (d - 48)) * 10 ^ length left + digits_number left ≡ v
value_at xs left n d v e h =
    let P : List ℕ → Type 0 = λ ys. n * 10 ^ length ys + digits_number ys ≡ v in
    let k : P (d ∷ left) = subst P e h in
    value_step n (d - 48) (digits_number left) (10 ^ length left) v (rw (← pow-suc 10 (length left)) k)

digits_at : (xs left : List ℕ) (d : ℕ) (b : Bool) → xs ≡ d ∷ left → list_all is_ascii_digit xs ≡ b → is_ascii_digit d ≡ true → list_all is_ascii_digit left ≡ b
digits_at xs left d b e h digit =
    let P : List ℕ → Type 0 = λ ys. list_all is_ascii_digit ys ≡ b in
    let k : P (d ∷ left) = subst P e h in
    grind (arith, common_steps)

small_at : (n d p : ℕ) → n < p → is_ascii_digit d ≡ true → n * 10 + (d - 48) < p * 10
small_at n d p h digit = grind (arith, common_steps)

pub ReadSoFar-step : (text : List ℕ) (i n : ℕ) → ReadSoFar text i n → i < length text → is_ascii_digit (get_or text i 0) ≡ true → ReadSoFar text (i + 1) (n * 10 + (get_or text i 0 - 48))
ReadSoFar-step text i n h within digit =
    let e : drop i text ≡ get_or text i 0 ∷ drop (i + 1) text = rw (add-one, drop-cons text i 0) refl in
    let bound : n * 10 + (get_or text i 0 - 48) < 10 ^ i * 10 = small_at n _ _ h.small digit in
    record {
      value = value_at _ _ n _ _ e h.value;
      digits = digits_at _ _ _ _ e h.digits digit;
      small = rw (add-one, pow-suc) bound;
    }

pub ReadSoFar-room : (text : List ℕ) (i n : ℕ) → ReadSoFar text i n → i < length text → length text ≤ 18 → n < 100_000_000_000_000_000
ReadSoFar-room text i n h within short =
    let k : i ≤ 17 = omega arith in
    let e : 10 ^ i ≤ 10 ^ 17 = pow-le-pow_right (omega arith) k in
    omega (arith, h.small)

-- a fraction's units are less than a whole
pub fraction_below : (n k : ℕ) → n < 10 ^ k → k ≤ 9 → n * 10 ^ (9 - k) < UNITS
fraction_below n k small fits =
    let nine : k + (9 - k) ≡ 9 = omega arith in
    let e : 10 ^ k * 10 ^ (9 - k) ≡ 10 ^ 9 = sym (pow-add 10 k (9 - k)) ∙ ap (λ i. 10 ^ i) nine in
    let p : 0 < 10 ^ (9 - k) = one-le-pow (9 - k) 10 (omega arith) in
    let lt : n * 10 ^ (9 - k) < 10 ^ k * 10 ^ (9 - k) = mul-lt-mul_of_pos_right small p in
    omega arith

pub ReadSoFar-below : (text : List ℕ) (i n most : ℕ) → ReadSoFar text i n → i ≤ most → n < 10 ^ most
ReadSoFar-below text i n most h fits =
    let e : 10 ^ i ≤ 10 ^ most = pow-le-pow_right (omega arith) fits in
    omega (arith, h.small)

-- What is written is read again.
use Rattle.std.proofs.Common.{◌≡◌, ℕ, zero, suc, ◌+◌, ◌-◌, ◌*◌, ◌/◌, ◌%◌, ◌^◌, ◌<◌, ◌≤◌, ◌==◌, true, false, Bool, List, [], ◌∷◌, ◌++◌, length, refl, ap, subst, sym, ◌∙◌, arith, ℤ, pos, negsuc, Some, if◌then◌else◌}
use Rattle.std.proofs.Math.Nat.{pow-suc, mod-lt, div-lt_iff_lt-mul}
use Rattle.std.proofs.lemmas.Nat.{pow-add}
use Rattle.std.proofs.lemmas.List.{append-nil}
use Rattle.std.proofs.lemmas.Grind.{common_steps}
use Rattle.std.proofs.lemmas.Fmt.{decimal_is_IsNumeral, length-decimal-le}
use Rattle.std.specs.Fmt.{decimal}
use Rattle.std.specs.List.{list_all}
use Rattle.std.specs.Char.{is_ascii_digit, digit_value}
use Rattle.std.specs.Str.Parse.{AllDigits, digits_value, digits_value_after}
use Rattle.intervals.specs.declared.units.TheConstants.{SIZE_LIMIT, UNITS, WHOLE_LIMIT}
use Rattle.intervals.specs.Scaled.{IsScaled}
use Rattle.intervals.specs.Digits.{is_digits, digits_number, fraction_units}
use Rattle.intervals.specs.Decimals.{WritesSize}
use Rattle.intervals.specs.Decimals.{whole, with_fraction, unsigned, negated}
use Rattle.intervals.specs.DecimalTexts.{decimal_of, written_decimal, fraction_text, fraction_digits}
use Rattle.intervals.proofs.Steps.{by_bool, same_of}
use Rattle.intervals.proofs.Fractions.{digits_next, power_positive}
use Rattle.intervals.proofs.DecimalForms.{decimal_forth}

-- ---- whole numbers

digit_of : (c : ℕ) → digit_value c < 10 → (is_ascii_digit c ≡ true) × (digit_value c ≡ c - 48)
digit_of c h = grind (arith, common_steps)

all_digits : (ds : List ℕ) → AllDigits 10 ds → list_all is_ascii_digit ds ≡ true
all_digits [] h = refl
all_digits (d ∷ ds) h = rw ((digit_of d h.0).0, all_digits ds h.1) refl

value_step : (n d rest p q v : ℕ) → q ≡ p * 10 → v ≡ (n * 10 + d) * p + rest → v ≡ n * q + (d * p + rest)
value_step n d rest p q v e h = rw e (h ∙ omega arith)

value_after : (n : ℕ) (ds : List ℕ) → AllDigits 10 ds → digits_value_after 10 n ds ≡ n * 10 ^ length ds + digits_number ds
value_after n [] h = omega arith
value_after n (d ∷ ds) h =
    let later : digits_value_after 10 (n * 10 + digit_value d) ds ≡ (n * 10 + digit_value d) * 10 ^ length ds + digits_number ds = value_after (n * 10 + digit_value d) ds h.1 in
    let P : ℕ → Type 0 = λ k. digits_value_after 10 (n * 10 + digit_value d) ds ≡ (n * 10 + k) * 10 ^ length ds + digits_number ds in
    let here : P (d - 48) = subst P (digit_of d h.0).1 later in
    value_step n (d - 48) (digits_number ds) (10 ^ length ds) _ _ (pow-suc 10 (length ds)) here

is_digits_by : (most : ℕ) (ds : List ℕ) → 0 < length ds → length ds ≤ most → list_all is_ascii_digit ds ≡ true → is_digits most ds ≡ true
is_digits_by most ds some fits all = rw all (grind (arith, common_steps))

pub whole_digits : (w : ℕ) → w < WHOLE_LIMIT → (is_digits 18 (decimal w) ≡ true) × (digits_number (decimal w) ≡ w)
whole_digits w small =
    let n = decimal_is_IsNumeral w (omega arith) in
    let length_in : length (decimal w) ≤ 18 = length-decimal-le 18 w (omega arith) small (omega arith) in
    let value : digits_value 10 (decimal w) ≡ 0 * 10 ^ length (decimal w) + digits_number (decimal w) = value_after 0 (decimal w) n.0.1 in
    (is_digits_by 18 (decimal w) n.0.0 length_in (all_digits (decimal w) n.0.1), omega (arith, n.1))

-- ---- fractions

quotient_in : (n p : ℕ) → n < p * 10 → 0 < p → n / p < 10
quotient_in n p h positive =
    let swapped : n < 10 * p = omega arith in
    (div-lt_iff_lt-mul {k = p} {x = n} {y = 10} positive).1 swapped

-- what is said of the digits of n units of 10^-k
record Fraction (k n : ℕ) (ds : List ℕ) : Type 0 where
  pub fits : length ds ≤ k
  pub digits : list_all is_ascii_digit ds ≡ true
  pub value : digits_number ds * 10 ^ (k - length ds) ≡ n

worth : (d d' p q r pv total : ℕ) → d' ≡ d → p * q ≡ total → pv * q ≡ r → (d' * p + pv) * q ≡ d * total + r
worth d d' p q r pv total e h k = rw (e, ← h, ← k) (omega arith)

digit_is : (d : ℕ) → d < 10 → is_ascii_digit (48 + d) ≡ true
digit_is d h = grind (arith, common_steps)

fraction_more : (k d r : ℕ) (ds : List ℕ) → Fraction k r ds → d < 10 → Fraction (suc k) (d * 10 ^ k + r) ((48 + d) ∷ ds)
fraction_more k d r ds h small =
    let fits : length ds ≤ k = h.fits in
    let all : length ds + (k - length ds) ≡ k = omega arith in
    let powers : 10 ^ length ds * 10 ^ (k - length ds) ≡ 10 ^ k = sym (pow-add 10 (length ds) (k - length ds)) ∙ ap (λ i. 10 ^ i) all in
    let back : (48 + d) - 48 ≡ d = omega arith in
    let left : suc k - suc (length ds) ≡ k - length ds = omega arith in
    record {
      fits = omega (arith, h.fits);
      digits = rw (digit_is d small) h.digits;
      value = rw left (worth d ((48 + d) - 48) (10 ^ length ds) (10 ^ (k - length ds)) r (digits_number ds) (10 ^ k) back powers h.value);
    }

no_fraction : (k n : ℕ) → (n == 0) ≡ true → Fraction k n []
no_fraction k n e =
    let zero_is : n ≡ 0 = same_of n 0 e in
    record { fits = omega arith; digits = refl; value = omega arith }

fraction_is : (k n : ℕ) → n < 10 ^ k → Fraction k n (fraction_digits k n)
fraction_is zero n h = record { fits = omega arith; digits = refl; value = omega arith }
fraction_is (suc k) n h =
    by_bool (n == 0)
    (λ e. rw e (no_fraction (suc k) n e))
    (λ e.
    let positive = power_positive k in
    let small : n < 10 ^ k * 10 = rw (← pow-suc 10 k) h in
    let rest = fraction_is k (n % 10 ^ k) (mod-lt n positive) in
    let more = fraction_more k (n / 10 ^ k) (n % 10 ^ k) _ rest (quotient_in n (10 ^ k) small positive) in
    let whole_again : n / 10 ^ k * 10 ^ k + n % 10 ^ k ≡ n = omega arith in
    rw e (subst (λ m. Fraction (suc k) m ((48 + n / 10 ^ k) ∷ fraction_digits k (n % 10 ^ k))) whole_again more))

some_digits : (k n : ℕ) → 0 < n → n < 10 ^ suc k → is_digits (suc k) (fraction_digits (suc k) n) ≡ true
some_digits k n some small =
    let f = fraction_is (suc k) n small in
    let e = digits_next k n some in
    let longer : 0 < length (fraction_digits (suc k) n) = rw (digits_next k n some) (omega arith) in
    is_digits_by (suc k) (fraction_digits (suc k) n) longer f.fits f.digits

-- ---- both

otherwise : (b : Bool) (xs ys : List ℕ) → b ≡ false → (if b then xs else ys) ≡ ys
otherwise b xs ys h = rw h refl

with_digits : (w f n : ℕ) (tail ds : List ℕ) → tail ≡ 46 ∷ ds → is_digits 18 (decimal w) ≡ true → digits_number (decimal w) ≡ w → is_digits 9 ds ≡ true → fraction_units ds ≡ f → w * UNITS + f ≡ n → WritesSize (decimal w ++ tail) n
with_digits w f n tail ds t d value h k e =
    rw t (with_fraction (decimal w) ds refl d h (rw (value, k) (sym e)))

with_tail : (w f n : ℕ) → w < WHOLE_LIMIT → f < UNITS → w * UNITS + f ≡ n → WritesSize (decimal w ++ fraction_text f) n
with_tail w f n small below e =
    let d = whole_digits w small in
    by_bool (f == 0)
    (λ h.
    let none : f ≡ 0 = same_of f 0 h in
    let text_is : decimal w ≡ decimal w ++ [] = sym (append-nil (decimal w)) in
    rw h (subst (λ t. WritesSize t n) text_is (whole d.0 (omega (arith, d.1)))))
    (λ h.
    let some : 0 < f = grind (arith, common_steps) in
    with_digits w f n (fraction_text f) (fraction_digits 9 f) (otherwise (f == 0) [] (46 ∷ fraction_digits 9 f) h) d.0 d.1 (some_digits 8 f some below) (fraction_is 9 f below).value e)

size_written : (n : ℕ) → n < SIZE_LIMIT → WritesSize (decimal (n / UNITS) ++ fraction_text (n % UNITS)) n
size_written n small = with_tail (n / UNITS) (n % UNITS) n (omega arith) (omega arith) (omega arith)

pub read_again : (units : ℤ) → IsScaled units → decimal_of (written_decimal units) ≡ Some units
read_again (pos n) small = decimal_forth _ _ (unsigned n (size_written n small) refl)
read_again (negsuc n) small = decimal_forth _ _ (negated _ (suc n) refl (size_written (suc n) small) refl)

-- The decimal form as a computation: what a text stands for, or none where it isn't of the form.
use Rattle.std.specs.Fmt.{decimal}
use Rattle.std.specs.Prelude.{ℕ, zero, suc, ◌+◌, ◌*◌, ◌/◌, ◌%◌, ◌^◌, ◌++◌, negsuc, unsigned_abs, Bool, false, List, [], ◌∷◌, take, drop, ◌==◌, if◌then◌else◌, ℤ, pos, neg_ℤ, Option, Some, None, option_and_then}
use Rattle.std.specs.Option.{option_map}
use Rattle.intervals.specs.declared.units.TheConstants.{UNITS}
use Rattle.intervals.specs.Digits.{number_of, fraction_units, is_digits, digit_run}

-- the units of digits behind a point
abbrev pub fraction_of : List ℕ → Option ℕ
fraction_of digits = (if is_digits 9 digits then Some (fraction_units digits) else None)

-- the units of what stands behind the whole digits: nothing, or a point and digits
abbrev pub tail_of : List ℕ → Option ℕ
tail_of [] = Some 0
tail_of (c ∷ rest) = (if c == 46 then fraction_of rest else None)

-- a number and what stands behind it as units
abbrev pub join_units : Option ℕ → Option ℕ → Option ℕ
join_units whole tail = option_and_then (λ n. option_map (λ units. n * UNITS + units) tail) whole

-- the form without a sign
unfoldable pub size_of : List ℕ → Option ℕ
size_of text = join_units (number_of 18 (take (digit_run text) text)) (tail_of (drop (digit_run text) text))

-- whether the text begins with the sign, and what stands behind it
abbrev pub has_sign : List ℕ → Bool
has_sign [] = false
has_sign (c ∷ text) = c == 45

abbrev pub after_sign : List ℕ → List ℕ
after_sign [] = []
after_sign (c ∷ text) = (if c == 45 then text else c ∷ text)

-- the number of this size, negative or not
abbrev pub signed_number : Bool → ℕ → ℤ
signed_number negative size = (if negative then neg_ℤ (pos size) else pos size)

-- the whole form
abbrev pub decimal_of : List ℕ → Option ℤ
decimal_of text = option_map (signed_number (has_sign text)) (size_of (after_sign text))

-- the digits of n units of 10^-k, from the tenths on, without last zeros
abbrev pub fraction_digits : ℕ → ℕ → List ℕ
fraction_digits zero n = []
fraction_digits (suc k) n = (if n == 0 then [] else (48 + n / 10 ^ k) ∷ fraction_digits k (n % 10 ^ k))

-- a point and digits, and nothing where the fraction is zero
abbrev pub fraction_text : ℕ → List ℕ
fraction_text n = (if n == 0 then [] else 46 ∷ fraction_digits 9 n)

abbrev pub sign_text : ℤ → List ℕ
sign_text (pos n) = []
sign_text (negsuc n) = 45 ∷ []

-- how this many units of 10^-9 are written: the sign of a negative number, the whole number without leading zeros, and the
-- fraction without last zeros
abbrev pub written_decimal : ℤ → List ℕ
written_decimal units =
    sign_text units ++ (decimal (unsigned_abs units / UNITS) ++ fraction_text (unsigned_abs units % UNITS))

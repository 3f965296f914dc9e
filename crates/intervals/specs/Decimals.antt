-- The decimal form of a number and what it stands for. The form is this project's own choice among what the IAM JSON policy
-- reference takes as a number: an optional `-`, one to eighteen digits, and optionally a point with one to nine digits.
use Rattle.std.specs.Prelude.{◌≡◌, ℕ, ◌+◌, ◌*◌, List, ◌∷◌, ◌++◌, true, ℤ, pos, neg_ℤ}
use Rattle.intervals.specs.declared.units.TheConstants.{UNITS}
use Rattle.intervals.specs.Digits.{is_digits, digits_number, fraction_units}

-- the text is of the form without a sign, and stands for this many units of 10^-9. 46 is the point
pub data WritesSize (text : List ℕ) (units : ℕ) : Type 0 where
  -- digits alone
  whole : is_digits 18 text ≡ true → units ≡ digits_number text * UNITS → WritesSize text units
  -- digits, a point and digits
  with_fraction : (digits fraction : List ℕ) → text ≡ digits ++ 46 ∷ fraction → is_digits 18 digits ≡ true
      → is_digits 9 fraction ≡ true → units ≡ digits_number digits * UNITS + fraction_units fraction
      → WritesSize text units

-- the text is of the decimal form, and stands for this many units of 10^-9. 45 is the sign
pub data WritesDecimal (text : List ℕ) (units : ℤ) : Type 0 where
  unsigned : (size : ℕ) → WritesSize text size → units ≡ pos size → WritesDecimal text units
  negated : (unsigned_text : List ℕ) (size : ℕ) → text ≡ 45 ∷ unsigned_text → WritesSize unsigned_text size
      → units ≡ neg_ℤ (pos size) → WritesDecimal text units

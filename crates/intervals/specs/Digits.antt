-- Decimal digits in ASCII and the numbers that they write: 48 is `0` and 57 is `9`.
use Rattle.std.specs.Prelude.{ℕ, ◌+◌, ◌-◌, ◌*◌, ◌^◌, List, [], ◌∷◌, length, Bool, ◌&&◌, nat_lt, nat_le, Option, Some, None, if◌then◌else◌}
use Rattle.std.specs.List.{list_all, prefix_len}
use Rattle.std.specs.Char.{is_ascii_digit}

-- the text is one to `most` digits
abbrev pub is_digits : ℕ → List ℕ → Bool
is_digits most text = nat_lt 0 (length text) && (nat_le (length text) most && list_all is_ascii_digit text)

-- the number that digits write: each digit times the power of ten of how many digits stand behind it
abbrev pub digits_number : List ℕ → ℕ
digits_number [] = 0
digits_number (d ∷ ds) = (d - 48) * 10 ^ length ds + digits_number ds

-- the units of 10^-9 that the digits behind a point write: the last of n digits is worth 10^-n
abbrev pub fraction_units : List ℕ → ℕ
fraction_units digits = digits_number digits * 10 ^ (9 - length digits)

-- the number that a text of one to `most` digits writes, and none for any other text
abbrev pub number_of : ℕ → List ℕ → Option ℕ
number_of most text = (if is_digits most text then Some (digits_number text) else None)

-- how many digits the text begins with
abbrev pub digit_run : List ℕ → ℕ
digit_run text = prefix_len is_ascii_digit text

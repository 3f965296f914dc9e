-- Scaled numbers: whole numbers of units of 10^-9. That they are less than 10^27 in size is this project's own choice: eighteen
-- digits before the point, nine behind it.
use Rattle.std.specs.Prelude.{ℕ, ℤ, pos, ◌*ℤ◌, ◌<◌, ◌≤◌, nat_lt, unsigned_abs, Option, Some, None, Result, MatchResult, if◌then◌else◌}
use Rattle.intervals.specs.declared.units.TheConstants.{SIZE_LIMIT, UNITS, WHOLE_LIMIT}

-- 10^27, which the number of units is less than in size
abbrev pub size_limit : ℕ
size_limit = SIZE_LIMIT

-- 10^18, which a whole number is less than in size
abbrev pub whole_limit : ℕ
whole_limit = WHOLE_LIMIT

-- the number of units of a scaled number
abbrev pub IsScaled : ℤ → Type 0
IsScaled units = unsigned_abs units < size_limit

-- the units of the whole number n
abbrev pub units_of_whole : ℤ → ℤ
units_of_whole n = n *ℤ pos UNITS

-- the same of a whole number less than 10^18 in size, and none of any other
abbrev pub whole_units : ℤ → Option ℤ
whole_units n = (if nat_lt (unsigned_abs n) whole_limit then Some (units_of_whole n) else None)

-- there is a result where n is less than the limit in size, and an error where it isn't
abbrev pub IsOkBelow : {T E : Type 0} → ℕ → ℤ → Result T E → Type 0
IsOkBelow limit n result = MatchResult result (λ _. unsigned_abs n < limit) (λ _. limit ≤ unsigned_abs n)

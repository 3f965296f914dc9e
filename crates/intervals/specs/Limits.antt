-- The constants of this crate as plain numbers.
use Rattle.std.specs.Prelude.{◌≡◌, ◌*◌, ◌^◌}
use Rattle.intervals.specs.declared.units.TheConstants.{SIZE_LIMIT, UNITS, UNITS_OF_DAY, UNITS_OF_MINUTE, WHOLE_LIMIT}

-- a unit is 10^-9, a minute has 60 seconds, and a day has 86,400
pub record TimesInUnits : Type 0 where
  pub second : UNITS ≡ 10 ^ 9
  pub minute : UNITS_OF_MINUTE ≡ 60 * 10 ^ 9
  pub day : UNITS_OF_DAY ≡ 86400 * 10 ^ 9

-- a whole number is less than 10^18 in size, and a number of units less than 10^27
pub record SizesOfNumbers : Type 0 where
  pub whole : WHOLE_LIMIT ≡ 10 ^ 18
  pub units : SIZE_LIMIT ≡ 10 ^ 27

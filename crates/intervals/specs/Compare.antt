-- How a number stands to a bound, as the numeric and date operators of the IAM JSON policy reference name it.
use Rattle.std.specs.Prelude.{◌≡◌, Bool, not, ℤ, ◌<ℤ◌, ◌≤ℤ◌}
use Rattle.std.specs.Int.Signed.{lt_z}
use Rattle.std.specs.Ordering.{int_eq}
use Rattle.intervals.specs.declared.compare.Compare.{Compare}
use Rattle.intervals.specs.declared.compare.Compare.TheVariants.{Equal, Less, LessOrEqual, Greater, GreaterOrEqual}

-- the value stands to the bound as named
abbrev pub StandsTo : Compare → ℤ → ℤ → Type 0
StandsTo Equal bound value = value ≡ bound
StandsTo Less bound value = value <ℤ bound
StandsTo LessOrEqual bound value = value ≤ℤ bound
StandsTo Greater bound value = bound <ℤ value
StandsTo GreaterOrEqual bound value = bound ≤ℤ value

-- the same by computation: whether the value stands to the bound as named
abbrev pub stands_to : Compare → ℤ → ℤ → Bool
stands_to Equal bound value = int_eq value bound
stands_to Less bound value = lt_z value bound
stands_to LessOrEqual bound value = not (lt_z bound value)
stands_to Greater bound value = lt_z bound value
stands_to GreaterOrEqual bound value = not (lt_z value bound)

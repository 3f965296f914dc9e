-- The forms of a moment and what each stands for: profiles of ISO 8601 and RFC 3339 that the IAM JSON policy reference takes as
-- dates, and seconds since 1970-01-01T00:00:00Z. Dates are civil dates of the years 0000 to 9999, by the Gregorian calendar also
-- before its time. That hours end at 23 and seconds at 59, and that a month or a day alone means its first instant in UTC, is
-- this project's own choice. 43 is `+`, 45 `-`, 46 the point, 58 the colon, 84 `T` and 90 `Z`.
use Rattle.std.specs.Prelude.{◌≡◌, ℕ, ◌+◌, ◌*◌, ◌/◌, ◌%◌, ◌<◌, List, [], ◌∷◌, ◌++◌, true, ℤ, pos, neg_ℤ, ◌+ℤ◌, ◌-ℤ◌, ◌*ℤ◌}
use Rattle.jiff_core.specs.Calendar.{IsCivilDate, days_from_civil}
use Rattle.intervals.specs.declared.units.TheConstants.{UNITS, UNITS_OF_MINUTE, UNITS_OF_DAY}
use Rattle.intervals.specs.Digits.{is_digits, digits_number, fraction_units}

-- a number below 100 in two digits, and one below 10,000 in four
abbrev pub two_digit_text : ℕ → List ℕ
two_digit_text n = (48 + n / 10) ∷ (48 + n % 10) ∷ []

abbrev pub four_digit_text : ℕ → List ℕ
four_digit_text n = two_digit_text (n / 100) ++ two_digit_text (n % 100)

-- a second, a minute and a day in units of 10^-9 s
abbrev pub units_of_second : ℕ
units_of_second = UNITS

abbrev pub units_of_minute : ℕ
units_of_minute = UNITS_OF_MINUTE

abbrev pub units_of_day : ℕ
units_of_day = UNITS_OF_DAY

-- the first instant in UTC of a civil date, in units of 10^-9 s since 1970-01-01T00:00:00Z: its day number counts the days of the
-- years, the months and the days before it
abbrev pub midnight : ℕ → ℕ → ℕ → ℤ
midnight year month day = days_from_civil (pos year) month day *ℤ pos units_of_day

-- an hour and a minute of a day, or of an offset, as `hh:mm`
pub record WritesMinutes (text : List ℕ) (minutes : ℕ) : Type 0 where
  pub hour : ℕ
  pub minute : ℕ
  pub text_is : text ≡ two_digit_text hour ++ 58 ∷ two_digit_text minute
  pub hour_in : hour < 24
  pub minute_in : minute < 60
  pub minutes_is : minutes ≡ hour * 60 + minute

-- what may stand behind the minutes of a time of day: nothing, `:ss`, or `:ss`, a point and digits
pub data WritesSeconds (text : List ℕ) (units : ℕ) : Type 0 where
  none : text ≡ [] → units ≡ 0 → WritesSeconds text units
  whole : (second : ℕ) → text ≡ 58 ∷ two_digit_text second → second < 60 → units ≡ second * units_of_second → WritesSeconds text units
  with_fraction : (second : ℕ) (fraction : List ℕ) → text ≡ 58 ∷ (two_digit_text second ++ 46 ∷ fraction)
      → second < 60 → is_digits 9 fraction ≡ true → units ≡ second * units_of_second + fraction_units fraction
      → WritesSeconds text units

-- the minutes that the local time is ahead of UTC
pub data WritesOffset (text : List ℕ) (ahead : ℤ) : Type 0 where
  utc : text ≡ 90 ∷ [] → ahead ≡ pos 0 → WritesOffset text ahead
  east : (clock : List ℕ) (minutes : ℕ) → text ≡ 43 ∷ clock → WritesMinutes clock minutes → ahead ≡ pos minutes
      → WritesOffset text ahead
  west : (clock : List ℕ) (minutes : ℕ) → text ≡ 45 ∷ clock → WritesMinutes clock minutes → ahead ≡ neg_ℤ (pos minutes)
      → WritesOffset text ahead

-- the text is of the form of a moment, and stands for this many units of 10^-9 s since 1970-01-01T00:00:00Z
pub data WritesMoment (text : List ℕ) (units : ℤ) : Type 0 where
  -- seconds
  seconds : is_digits 18 text ≡ true → units ≡ pos (digits_number text * units_of_second) → WritesMoment text units
  -- `YYYY-MM`
  month : (y m : ℕ) → text ≡ four_digit_text y ++ 45 ∷ two_digit_text m → IsCivilDate (pos y) m 1 → units ≡ midnight y m 1 → WritesMoment text units
  -- `YYYY-MM-DD`
  day : (y m d : ℕ) → text ≡ four_digit_text y ++ 45 ∷ (two_digit_text m ++ 45 ∷ two_digit_text d) → IsCivilDate (pos y) m d → units ≡ midnight y m d
      → WritesMoment text units
  -- `YYYY-MM-DDThh:mm`, then seconds, then the offset, which is taken off
  time : (y m d minutes within : ℕ) (ahead : ℤ) (clock second offset : List ℕ)
      → text ≡ four_digit_text y ++ 45 ∷ (two_digit_text m ++ 45 ∷ (two_digit_text d ++ 84 ∷ (clock ++ (second ++ offset)))) → IsCivilDate (pos y) m d
      → WritesMinutes clock minutes → WritesSeconds second within → WritesOffset offset ahead
      → units ≡ ((midnight y m d +ℤ pos (minutes * units_of_minute + within)) -ℤ (ahead *ℤ pos units_of_minute))
      → WritesMoment text units

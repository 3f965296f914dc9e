-- The forms of a moment as a computation: what a text stands for, or none where it is of no form. Each step gives what it read
-- and what stands behind it.
use Rattle.std.specs.Prelude.{ℕ, ◌+◌, ◌-◌, ◌*◌, List, [], ◌∷◌, take, drop, Bool, false, ◌&&◌, ◌==◌, nat_le, nat_lt, if◌then◌else◌, ℤ, pos, neg_ℤ, ◌+ℤ◌, ◌-ℤ◌, ◌*ℤ◌, Option, Some, None, option_and_then}
use Rattle.std.specs.Option.{option_map}
use Rattle.std.specs.Borrow.{Bor}
use Rattle.std.specs.Char.{is_ascii_digit}
use Rattle.jiff_core.specs.Calendar.{days_in_month}
use Rattle.intervals.specs.Digits.{is_digits, digits_number, digit_run}
use Rattle.intervals.specs.DecimalTexts.{fraction_of}
use Rattle.intervals.specs.Moments.{midnight, units_of_second, units_of_minute}

-- what a step read and the text behind it
abbrev pub read_view : {A : Type 0} → Option (A × Bor (List ℕ)) → Option (A × List ℕ)
read_view None = None
read_view (Some p) = Some (p.0, p.1.now)

-- two digits
abbrev pub two_of : List ℕ → Option (ℕ × List ℕ)
two_of [] = None
two_of (a ∷ []) = None
two_of (a ∷ b ∷ rest) = (if is_ascii_digit a && is_ascii_digit b then Some ((a - 48) * 10 + (b - 48), rest) else None)

-- four digits
unfoldable pub four_of : List ℕ → Option (ℕ × List ℕ)
four_of text = option_and_then (λ a. option_map (λ b. (a.0 * 100 + b.0, b.1)) (two_of a.1)) (two_of text)

-- a mark and two digits
abbrev pub field_of : ℕ → List ℕ → Option (ℕ × List ℕ)
field_of mark [] = None
field_of mark (c ∷ text) = (if c == mark then two_of text else None)

-- an hour and a minute as minutes
abbrev pub minutes_of : ℕ → ℕ → List ℕ → Option (ℕ × List ℕ)
minutes_of hour minute rest = (if nat_lt hour 24 && nat_lt minute 60 then Some (hour * 60 + minute, rest) else None)

-- a mark, an hour, a colon and a minute
unfoldable pub clock_of : ℕ → List ℕ → Option (ℕ × List ℕ)
clock_of mark text = option_and_then (λ h. option_and_then (λ m. minutes_of h.0 m.0 m.1) (field_of 58 h.1)) (field_of mark text)

-- the units of a second, and those of the digits behind its point
abbrev pub fraction_after : ℕ → List ℕ → Option (ℕ × List ℕ)
fraction_after second text =
    option_map (λ f. (second * units_of_second + f, drop (digit_run text) text)) (fraction_of (take (digit_run text) text))

-- the units of a second, and of a fraction where a point stands behind it
abbrev pub after_second : ℕ → List ℕ → Option (ℕ × List ℕ)
after_second second [] = Some (second * units_of_second, [])
after_second second (c ∷ rest) = (if c == 46 then fraction_after second rest else Some (second * units_of_second, c ∷ rest))

-- the same of a second that a minute has
abbrev pub second_of : ℕ → List ℕ → Option (ℕ × List ℕ)
second_of second rest = (if nat_lt second 60 then after_second second rest else None)

-- what may stand behind the minutes
unfoldable pub seconds_of : List ℕ → Option (ℕ × List ℕ)
seconds_of [] = Some (0, [])
seconds_of (c ∷ text) = (if c == 58 then option_and_then (λ s. second_of s.0 s.1) (two_of text) else Some (0, c ∷ text))

-- the minutes, where nothing stands behind them
abbrev pub at_end : ℕ → List ℕ → Option ℕ
at_end minutes [] = Some minutes
at_end minutes (c ∷ rest) = None

abbrev pub whole_clock : ℕ → List ℕ → Option ℕ
whole_clock mark text = option_and_then (λ m. at_end m.0 m.1) (clock_of mark text)

-- whether the text is the mark alone
abbrev pub is_mark_alone : ℕ → List ℕ → Bool
is_mark_alone mark [] = false
is_mark_alone mark (c ∷ []) = c == mark
is_mark_alone mark (c ∷ d ∷ text) = false

-- whether the text begins with the mark
abbrev pub begins_with : ℕ → List ℕ → Bool
begins_with mark [] = false
begins_with mark (c ∷ text) = c == mark

-- the minutes that the local time is ahead
unfoldable pub offset_of : List ℕ → Option ℤ
offset_of text =
    (if is_mark_alone 90 text then Some (pos 0)
    else (if begins_with 45 text then option_map (λ n. neg_ℤ (pos n)) (whole_clock 45 text)
    else option_map (λ n. pos n) (whole_clock 43 text)))

-- the units in UTC of minutes and units of the local time, that is so many minutes ahead
abbrev pub in_utc : ℕ → ℕ → ℤ → ℤ
in_utc minutes units ahead = pos (minutes * units_of_minute + units) -ℤ (ahead *ℤ pos units_of_minute)

-- the units of a time of day since the day's first instant in UTC
unfoldable pub time_of : List ℕ → Option ℤ
time_of text =
    option_and_then (λ c. option_and_then (λ s. option_map (in_utc c.0 s.0) (offset_of s.1)) (seconds_of c.1)) (clock_of 84 text)

-- the first instant of a date, where the calendar has it
abbrev pub is_date : ℕ → ℕ → ℕ → Bool
is_date year month day = (nat_le 1 month && nat_le month 12) && (nat_le 1 day && nat_le day (days_in_month (pos year) month))

abbrev pub midnight_of : ℕ → ℕ → ℕ → Option ℤ
midnight_of year month day = (if is_date year month day then Some (midnight year month day) else None)

-- a date and what stands behind it
abbrev pub after_day : ℤ → List ℕ → Option ℤ
after_day start [] = Some start
after_day start (c ∷ rest) = option_map (λ time. start +ℤ time) (time_of (c ∷ rest))

abbrev pub after_month : ℕ → ℕ → List ℕ → Option ℤ
after_month year month [] = midnight_of year month 1
after_month year month (c ∷ rest) =
    option_and_then (λ d. option_and_then (λ start. after_day start d.1) (midnight_of year month d.0)) (field_of 45 (c ∷ rest))

-- the forms with a date
unfoldable pub civil_of : List ℕ → Option ℤ
civil_of text = option_and_then (λ y. option_and_then (λ m. after_month y.0 m.0 m.1) (field_of 45 y.1)) (four_of text)

-- all forms
unfoldable pub moment_of : List ℕ → Option ℤ
moment_of text = (if is_digits 18 text then Some (pos (digits_number text * units_of_second)) else civil_of text)

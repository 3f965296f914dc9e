-- The computation of a moment's forms answers what the forms say.
use Rattle.std.proofs.Common.{◌≡◌, ℕ, ◌+◌, ◌*◌, ◌<◌, ◌≤◌, ◌&&◌, true, false, List, [], ◌∷◌, ◌++◌, refl, ap, subst, sym, ◌∙◌, arith, Option, Some, nat_le, ℤ, pos, ◌+ℤ◌, ◌-ℤ◌, ◌*ℤ◌, ◌≤ℤ◌}
use Rattle.std.specs.List.{list_all}
use Rattle.std.specs.Char.{is_ascii_digit}
use Rattle.std.proofs.lemmas.Option.{same_Some}
use Rattle.std.proofs.lemmas.Int.{ints}
use Rattle.std.proofs.lemmas.Grind.{common_steps}
use Rattle.std.specs.Int.{IsInRange}
use Rattle.jiff_core.specs.Calendar.{IsCivilDate, days_in_month}
use Rattle.intervals.specs.Digits.{is_digits, digits_number}
use Rattle.intervals.specs.Moments.{two_digit_text, four_digit_text, midnight, units_of_second, units_of_minute, WritesMinutes, WritesSeconds, WritesOffset, WritesMoment}
use Rattle.intervals.specs.Moments.{utc, east, west, seconds, month, day, time}
use Rattle.intervals.specs.MomentTexts.{four_of, field_of, clock_of, seconds_of, offset_of, time_of, is_date, midnight_of, after_day, after_month, civil_of, moment_of}
use Rattle.intervals.proofs.Steps.{by_bool, mapped, chained, guarded, both}
use Rattle.intervals.proofs.Dates.{midnight_in}
use Rattle.intervals.proofs.FieldForms.{four_forth, four_back, field_forth, field_back, clock_forth, clock_back, seconds_at, seconds_back, offset_forth, offset_back}

-- ---- from the forms to the computation

not_digits : (front rest : List ℕ) (c : ℕ) → is_ascii_digit c ≡ false → list_all is_ascii_digit (front ++ c ∷ rest) ≡ false
not_digits [] rest c h = rw h refl
not_digits (d ∷ front) rest c h = rw (not_digits front rest c h) (grind (arith, common_steps))

no_seconds : (text front rest : List ℕ) → text ≡ front ++ 45 ∷ rest → is_digits 18 text ≡ false
no_seconds text front rest t = rw (t, not_digits front rest 45 refl) (grind (arith, common_steps))

year_in : (y : ℕ) → pos y ≤ℤ pos 9999 → y < 10_000
year_in y h = omega (arith, ints)

seconds_before : (second offset : List ℕ) (within : ℕ) (ahead : ℤ) → WritesSeconds second within → WritesOffset offset ahead → seconds_of (second ++ offset) ≡ Some (within, offset)
seconds_before second offset within ahead s (utc t e) = rw t (seconds_at 90 [] second within refl refl refl s)
seconds_before second offset within ahead s (east clock minutes t w e) = rw t (seconds_at 43 clock second within refl refl refl s)
seconds_before second offset within ahead s (west clock minutes t w e) = rw t (seconds_at 45 clock second within refl refl refl s)

time_forth : (clock second offset : List ℕ) (minutes within : ℕ) (ahead : ℤ) → WritesMinutes clock minutes → WritesSeconds second within → WritesOffset offset ahead
    → time_of (84 ∷ (clock ++ (second ++ offset))) ≡ Some (pos (minutes * units_of_minute + within) -ℤ (ahead *ℤ pos units_of_minute))
unfolding time_of
time_forth clock second offset minutes within ahead w s o =
    rw (clock_forth 84 minutes clock (second ++ offset) w, seconds_before second offset within ahead s o, offset_forth offset ahead o) refl

in_month_forth : (y m : ℕ) (rest : List ℕ) (units : ℤ) → y < 10_000 → m < 100 → after_month y m rest ≡ Some units → civil_of (four_digit_text y ++ 45 ∷ (two_digit_text m ++ rest)) ≡ Some units
unfolding civil_of
in_month_forth y m rest units small month_in h = rw (four_forth y (45 ∷ (two_digit_text m ++ rest)) small, field_forth 45 m rest month_in) h

in_day_forth : (y m d : ℕ) (rest : List ℕ) (units : ℤ) → d < 100 → midnight_of y m d ≡ Some (midnight y m d) → after_day (midnight y m d) rest ≡ Some units → after_month y m (45 ∷ (two_digit_text d ++ rest)) ≡ Some units
in_day_forth y m d rest units day_in e h = rw (field_forth 45 d rest day_in, e) h

civil_forth : (y m d : ℕ) (rest : List ℕ) (units : ℤ) → IsCivilDate (pos y) m d → d < 100 → after_day (midnight y m d) rest ≡ Some units → civil_of (four_digit_text y ++ 45 ∷ (two_digit_text m ++ 45 ∷ (two_digit_text d ++ rest))) ≡ Some units
civil_forth y m d rest units date day_in h =
    in_month_forth y m (45 ∷ (two_digit_text d ++ rest)) units (year_in y date.0.1) (omega arith) (in_day_forth y m d rest units day_in (midnight_in y m d date.1 date.2) h)

day_below : (y : ℤ) (m d : ℕ) → IsInRange 1 (days_in_month y m) d → d < 100
day_below y m d h = grind (arith, common_steps)

regroup : (a b c : ℤ) → a +ℤ (b -ℤ c) ≡ ((a +ℤ b) -ℤ c)
regroup a b c = omega (arith, ints)

from_civil : (text : List ℕ) (units : ℤ) → is_digits 18 text ≡ false → civil_of text ≡ Some units → moment_of text ≡ Some units
unfolding moment_of
from_civil text units e h = rw e h

pub moment_forth : (text : List ℕ) (units : ℤ) → WritesMoment text units → moment_of text ≡ Some units
unfolding moment_of
moment_forth text units (seconds h e) = rw (h, e) refl
moment_forth text units (month y m t date e) =
    from_civil text units (no_seconds text (four_digit_text y) (two_digit_text m) t)
    (rw t (in_month_forth y m [] units (year_in y date.0.1) (omega (arith, date.1)) (midnight_in y m 1 date.1 date.2 ∙ ap (λ (z : ℤ). Some z) (sym e))))
moment_forth text units (day y m d t date e) =
    from_civil text units (no_seconds text (four_digit_text y) (two_digit_text m ++ 45 ∷ two_digit_text d) t)
    (rw t (civil_forth y m d [] units date (day_below (pos y) m d date.2) (ap (λ (z : ℤ). Some z) (sym e))))
moment_forth text units (time y m d minutes within ahead clock second offset t date w s o e) =
    let read = time_forth clock second offset minutes within ahead w s o in
    let value = regroup (midnight y m d) (pos (minutes * units_of_minute + within)) (ahead *ℤ pos units_of_minute) in
    from_civil text units (no_seconds text (four_digit_text y) (two_digit_text m ++ 45 ∷ (two_digit_text d ++ 84 ∷ (clock ++ (second ++ offset)))) t)
    (rw t (civil_forth y m d (84 ∷ (clock ++ (second ++ offset))) units date (day_below (pos y) m d date.2) (rw read (ap (λ (z : ℤ). Some z) (value ∙ sym e)))))

-- ---- from the computation to the forms

-- a time of day that was read
record TimeRead (text : List ℕ) (units : ℤ) : Type 0 where
  pub minutes : ℕ
  pub within : ℕ
  pub ahead : ℤ
  pub clock : List ℕ
  pub second : List ℕ
  pub offset : List ℕ
  pub clock_is : WritesMinutes clock minutes
  pub second_is : WritesSeconds second within
  pub offset_is : WritesOffset offset ahead
  pub text_is : text ≡ 84 ∷ (clock ++ (second ++ offset))
  pub units_is : pos (minutes * units_of_minute + within) -ℤ (ahead *ℤ pos units_of_minute) ≡ units

time_back : (text : List ℕ) (units : ℤ) → time_of text ≡ Some units → TimeRead text units
unfolding time_of
time_back text units h =
    let a = chained _ (clock_of 84 text) units h in
    let b = chained _ (seconds_of a.0.1) units a.2 in
    let m = mapped _ (offset_of b.0.1) units b.2 in
    let read = clock_back 84 text a.0.0 a.0.1 a.1 in
    let behind = seconds_back a.0.1 b.0.0 b.0.1 b.1 in
    record {
      minutes = a.0.0;
      within = b.0.0;
      ahead = m.0;
      clock = read.clock;
      second = behind.second;
      offset = b.0.1;
      clock_is = read.writes;
      second_is = behind.writes;
      offset_is = offset_back b.0.1 m.0 m.1;
      text_is = read.text_is ∙ ap (λ (t : List ℕ). 84 ∷ (read.clock ++ t)) behind.text_is;
      units_is = m.2;
    }

most_of : (n k : ℕ) → nat_le n k ≡ true → n ≤ k
most_of n k h = grind (arith, common_steps)

date_of : (y m d : ℕ) → y < 10_000 → is_date y m d ≡ true → IsCivilDate (pos y) m d
date_of y m d h e =
    let parts = both (nat_le 1 m && nat_le m 12) (nat_le 1 d && nat_le d (days_in_month (pos y) m)) e in
    let months = both (nat_le 1 m) (nat_le m 12) parts.0 in
    let days = both (nat_le 1 d) (nat_le d (days_in_month (pos y) m)) parts.1 in
    ((omega (arith, ints), omega (arith, ints)), (most_of _ _ months.0, most_of _ _ months.1), (most_of _ _ days.0, most_of _ _ days.1))

day_back : (text : List ℕ) (y m d : ℕ) (rest : List ℕ) (units : ℤ) → text ≡ four_digit_text y ++ 45 ∷ (two_digit_text m ++ 45 ∷ (two_digit_text d ++ rest)) → IsCivilDate (pos y) m d → after_day (midnight y m d) rest ≡ Some units → WritesMoment text units
day_back text y m d [] units t date h = day y m d t date (sym (same_Some _ _ h))
day_back text y m d (c ∷ rest) units t date h =
    let k = mapped _ (time_of (c ∷ rest)) units h in
    let read = time_back (c ∷ rest) k.0 k.1 in
    let value = regroup (midnight y m d) (pos (read.minutes * units_of_minute + read.within)) (read.ahead *ℤ pos units_of_minute) in
    time y m d read.minutes read.within read.ahead read.clock read.second read.offset
    (t ∙ ap (λ (u : List ℕ). four_digit_text y ++ 45 ∷ (two_digit_text m ++ 45 ∷ (two_digit_text d ++ u))) read.text_is)
    date read.clock_is read.second_is read.offset_is
    (sym k.2 ∙ ap (λ (z : ℤ). midnight y m d +ℤ z) (sym read.units_is) ∙ value)

month_back : (text : List ℕ) (y m : ℕ) (rest : List ℕ) (units : ℤ) → text ≡ four_digit_text y ++ 45 ∷ (two_digit_text m ++ rest) → y < 10_000 → after_month y m rest ≡ Some units → WritesMoment text units
month_back text y m [] units t small h =
    let g = guarded (is_date y m 1) (Some (midnight y m 1)) units h in
    month y m t (date_of y m 1 small g.0) (sym (same_Some _ _ g.1))
month_back text y m (c ∷ rest) units t small h =
    let a = chained _ (field_of 45 (c ∷ rest)) units h in
    let b = chained _ (midnight_of y m a.0.0) units a.2 in
    let g = guarded (is_date y m a.0.0) (Some (midnight y m a.0.0)) b.0 b.1 in
    let read = field_back 45 (c ∷ rest) a.0.0 a.0.1 a.1 in
    let start : midnight y m a.0.0 ≡ b.0 = same_Some _ _ g.1 in
    day_back text y m a.0.0 a.0.1 units (t ∙ ap (λ (u : List ℕ). four_digit_text y ++ 45 ∷ (two_digit_text m ++ u)) read.text_is) (date_of y m a.0.0 small g.0) (subst (λ (z : ℤ). after_day z a.0.1 ≡ Some units) (sym start) b.2)

civil_back : (text : List ℕ) (units : ℤ) → civil_of text ≡ Some units → WritesMoment text units
unfolding civil_of
civil_back text units h =
    let a = chained _ (four_of text) units h in
    let b = chained _ (field_of 45 a.0.1) units a.2 in
    let year = four_back text a.0.0 a.0.1 a.1 in
    let read = field_back 45 a.0.1 b.0.0 b.0.1 b.1 in
    month_back text a.0.0 b.0.0 b.0.1 units (year.text_is ∙ ap (λ (u : List ℕ). four_digit_text a.0.0 ++ u) read.text_is) year.small b.2

pub moment_back : (text : List ℕ) (units : ℤ) → moment_of text ≡ Some units → WritesMoment text units
unfolding moment_of
moment_back text units h =
    by_bool (is_digits 18 text)
    (λ e.
    let k : ◌≡◌ {A = Option ℤ} (Some (pos (digits_number text * units_of_second))) (Some units) = rw e at h in
    seconds e (sym (same_Some _ _ k)))
    (λ e. civil_back text units (rw e at h))

-- The numbers that texts stand for are in range.
use Rattle.std.proofs.Common.{◌≡◌, ℕ, zero, suc, ◌+◌, ◌-◌, ◌*◌, ◌^◌, ◌<◌, ◌≤◌, ◌&&◌, nat_lt, nat_le, Bool, true, false, List, [], ◌∷◌, length, if◌then◌else◌, refl, ap, sym, ◌∙◌, subst, arith, ℤ, pos, neg_ℤ, ◌+ℤ◌, ◌-ℤ◌, ◌*ℤ◌, unsigned_abs, Some, None}
use Rattle.std.specs.List.{list_all}
use Rattle.std.specs.Char.{is_ascii_digit}
use Rattle.std.proofs.Math.Nat.{pow-suc, pow-zero, pow-le-pow_right, one-le-pow, mul-lt-mul_of_pos_right, mul-le-mul_right}
use Rattle.std.proofs.lemmas.Nat.{pow-add}
use Rattle.std.proofs.lemmas.Bool.{leb-true}
use Rattle.std.proofs.lemmas.Grind.{common_steps}
use Rattle.std.proofs.lemmas.Int.{ints}
use Rattle.jiff_core.specs.Calendar.{IsCivilDate, days_from_civil}
use Rattle.jiff_core.proofs.CalendarLemmas.{day_count_bounds, days_from_civil-day_count}
use Rattle.intervals.specs.declared.units.TheConstants.{UNITS}
use Rattle.intervals.specs.Scaled.{IsScaled, size_limit, units_of_whole, whole_limit, whole_units}
use Rattle.intervals.specs.Digits.{digits_number, fraction_units, is_digits}
use Rattle.intervals.specs.Decimals.{WritesDecimal, WritesSize, whole, with_fraction, unsigned, negated}
use Rattle.intervals.specs.Moments.{WritesMinutes, WritesMoment, WritesOffset, WritesSeconds, midnight, units_of_day, units_of_minute, units_of_second}
use Rattle.intervals.specs.Moments.{seconds, month, day, time, utc, east, west}
use Rattle.intervals.specs.Moments as moments

-- ---- digits

pub both : (a b : Bool) → (a && b) ≡ true → (a ≡ true) × (b ≡ true)
both true b e = (refl, e)
both false b e = absurd (cc)

digit-in : (d : ℕ) → is_ascii_digit d ≡ true → d - 48 ≤ 9
digit-in d e = grind (arith, common_steps)

step-in : (d p rest : ℕ) → d ≤ 9 → rest < p → d * p + rest < p * 10
step-in d p rest small below = let most : d * p ≤ 9 * p = mul-le-mul_right p small in omega (arith, most, below)

digits-below : (ds : List ℕ) → list_all is_ascii_digit ds ≡ true → digits_number ds < 10 ^ length ds
digits-below [] e = omega (arith, pow-zero 10)
digits-below (d ∷ ds) e =
    let parts = both (is_ascii_digit d) (list_all is_ascii_digit ds) e in
    let here = step-in (d - 48) (10 ^ length ds) (digits_number ds) (digit-in d parts.0) (digits-below ds parts.1) in
    rw (pow-suc 10 (length ds)) here

-- the text has at most so many digits
record AreDigits (most : ℕ) (ds : List ℕ) : Type 0 where
  few : length ds ≤ most
  below : digits_number ds < 10 ^ length ds

are-digits : (most : ℕ) (ds : List ℕ) → is_digits most ds ≡ true → AreDigits most ds
are-digits most ds e =
    let parts = both (nat_lt 0 (length ds)) (nat_le (length ds) most && list_all is_ascii_digit ds) e in
    let rest = both (nat_le (length ds) most) (list_all is_ascii_digit ds) parts.1 in
    record { few = leb-true (length ds) most rest.0; below = digits-below ds rest.1 }

whole-in : (ds : List ℕ) → is_digits 18 ds ≡ true → digits_number ds < whole_limit
whole-in ds e =
    let are = are-digits 18 ds e in
    let most : 10 ^ length ds ≤ 10 ^ 18 = pow-le-pow_right (omega arith) are.few in
    omega (arith, are.below, most)

fraction-in : (ds : List ℕ) → is_digits 9 ds ≡ true → fraction_units ds < UNITS
fraction-in ds e =
    let are = are-digits 9 ds e in
    let k = length ds in
    let nine : k + (9 - k) ≡ 9 = omega (arith, are.few) in
    let split : 10 ^ k * 10 ^ (9 - k) ≡ 10 ^ 9 = sym (pow-add 10 k (9 - k)) ∙ ap (λ i. 10 ^ i) nine in
    let positive : 0 < 10 ^ (9 - k) = one-le-pow (9 - k) 10 (omega arith) in
    let less : digits_number ds * 10 ^ (9 - k) < 10 ^ k * 10 ^ (9 - k) = mul-lt-mul_of_pos_right are.below positive in
    omega (arith, split, less)

-- ---- numbers

size-in : (text : List ℕ) (units : ℕ) → WritesSize text units → units < size_limit
size-in text units (whole digits is) = omega (arith, is, whole-in text digits)
size-in text units (with_fraction digits fraction split whole_digits rest is) = omega (arith, is, whole-in digits whole_digits, fraction-in fraction rest)

size-negated : (n : ℕ) → unsigned_abs (neg_ℤ (pos n)) ≡ n
size-negated zero = refl
size-negated (suc n) = refl

pub decimal-in : (text : List ℕ) (units : ℤ) → WritesDecimal text units → IsScaled units
decimal-in text units (unsigned size writes is) = subst IsScaled (sym is) (size-in text size writes)
decimal-in text units (negated behind size split writes is) =
    subst IsScaled (sym is) (subst (λ n. n < size_limit) (sym (size-negated size)) (size-in behind size writes))

-- ---- whole numbers

pub whole-scaled : (n units : ℤ) → whole_units n ≡ Some units → IsScaled units
whole-scaled n units e = by (nat_lt (unsigned_abs n) whole_limit) refl e
  where
    by : (b : Bool) → nat_lt (unsigned_abs n) whole_limit ≡ b → (if b then Some (units_of_whole n) else None) ≡ Some units → IsScaled units
    by true is e =
        let small : unsigned_abs n < whole_limit = grind (arith, common_steps) in
        let scaled : unsigned_abs (n *ℤ pos UNITS) < size_limit = omega (arith, ints, small) in
        let same : units_of_whole n ≡ units = cc in
        subst IsScaled same scaled
    by false is e = absurd (cc)

-- ---- moments

days-in : (y m d : ℕ) → IsCivilDate (pos y) m d → unsigned_abs (days_from_civil (pos y) m d) ≤ 10_000_000
days-in y m d civil =
    let counted = days_from_civil-day_count (pos y) m d in
    let bounds = day_count_bounds (pos y) m d civil in
    omega (arith, ints, counted, bounds.0, bounds.1)

midnight-in : (y m d : ℕ) → IsCivilDate (pos y) m d → unsigned_abs (midnight y m d) ≤ 1_000_000_000_000_000_000_000
midnight-in y m d civil = product (days_from_civil (pos y) m d) (days-in y m d civil)
  where
    product : (z : ℤ) → unsigned_abs z ≤ 10_000_000 → unsigned_abs (z *ℤ pos units_of_day) ≤ 1_000_000_000_000_000_000_000
    product z small = omega (arith, ints, small)

minutes-in : (text : List ℕ) (minutes : ℕ) → WritesMinutes text minutes → minutes < 1440
minutes-in text minutes w = omega (arith, w.minutes_is, w.hour_in, w.minute_in)

seconds-in : (text : List ℕ) (units : ℕ) → WritesSeconds text units → units < units_of_minute
seconds-in text units (moments.none empty is) = omega (arith, is)
seconds-in text units (moments.whole second split small is) = omega (arith, is, small)
seconds-in text units (moments.with_fraction second fraction split small digits is) = omega (arith, is, small, fraction-in fraction digits)

ahead-in : (text : List ℕ) (ahead : ℤ) → WritesOffset text ahead → unsigned_abs ahead < 1440
ahead-in text ahead (utc split is) = rw is (omega arith)
ahead-in text ahead (east clock minutes split writes is) = rw is (minutes-in clock minutes writes)
ahead-in text ahead (west clock minutes split writes is) = rw (is, size-negated minutes) (minutes-in clock minutes writes)

pub moment-in : (text : List ℕ) (units : ℤ) → WritesMoment text units → IsScaled units
moment-in text units (seconds digits is) =
    let small : digits_number text * units_of_second < size_limit = omega (arith, whole-in text digits) in
    subst IsScaled (sym is) small
moment-in text units (month y m split civil is) = subst IsScaled (sym is) (omega (arith, midnight-in y m 1 civil))
moment-in text units (day y m d split civil is) = subst IsScaled (sym is) (omega (arith, midnight-in y m d civil))
moment-in text units (time y m d minutes within ahead clock second offset split civil writes writes_second writes_offset is) =
    subst IsScaled (sym is) (sum (midnight y m d) (minutes * units_of_minute + within) ahead (midnight-in y m d civil)
    (omega (arith, minutes-in clock minutes writes, seconds-in second within writes_second)) (ahead-in offset ahead writes_offset))
  where
    sum : (z : ℤ) (n : ℕ) (ahead : ℤ) → unsigned_abs z ≤ 1_000_000_000_000_000_000_000 → n ≤ 1_000_000_000_000_000_000 → unsigned_abs ahead < 1440 →
        IsScaled ((z +ℤ pos n) -ℤ (ahead *ℤ pos units_of_minute))
    sum z n ahead first second third = omega (arith, ints, first, second, third)

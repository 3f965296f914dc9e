-- The parts of a moment's text, read forwards and backwards.
use Rattle.std.proofs.Common.{◌≡◌, ℕ, ◌+◌, ◌-◌, ◌*◌, ◌/◌, ◌%◌, ◌<◌, ◌==◌, ◌&&◌, true, false, List, [], ◌∷◌, ◌++◌, take, drop, refl, ap, subst, sym, ◌∙◌, arith, Option, Some, nat_lt, eq-eqb, ℤ, pos, neg_ℤ}
use Rattle.std.specs.Option.{option_map, option_and_then}
use Rattle.std.proofs.lemmas.Option.{same_Some, some_pair_parts}
use Rattle.std.proofs.lemmas.List.{take-append-drop, append-nil}
use Rattle.std.proofs.lemmas.Grind.{common_steps}
use Rattle.std.specs.Char.{is_ascii_digit}
use Rattle.intervals.specs.Digits.{is_digits, fraction_units, digit_run}
use Rattle.intervals.specs.DecimalTexts.{fraction_of}
use Rattle.intervals.specs.Moments.{two_digit_text, four_digit_text, units_of_second, WritesMinutes, WritesSeconds, WritesOffset}
use Rattle.intervals.specs.Moments.{none, whole, with_fraction, utc, east, west}
use Rattle.intervals.specs.MomentTexts.{two_of, four_of, field_of, minutes_of, clock_of, fraction_after, after_second, second_of, seconds_of, at_end, whole_clock, is_mark_alone, begins_with, offset_of}
use Rattle.intervals.proofs.Steps.{by_bool, mapped, chained, guarded, both, same_of, only_digits, front_digits, behind_digits}

-- ---- two digits, four digits, and a mark with two digits

digit_is : (d : ℕ) → d < 10 → is_ascii_digit (48 + d) ≡ true
digit_is d h = grind (arith, common_steps)

two_at : (a b n : ℕ) (rest : List ℕ) → is_ascii_digit a ≡ true → is_ascii_digit b ≡ true → (a - 48) * 10 + (b - 48) ≡ n → two_of (a ∷ b ∷ rest) ≡ Some (n, rest)
two_at a b n rest h k e = rw (h, k, e) refl

pub two_forth : (n : ℕ) (rest : List ℕ) → n < 100 → two_of (two_digit_text n ++ rest) ≡ Some (n, rest)
two_forth n rest h = two_at (48 + n / 10) (48 + n % 10) n rest (digit_is (n / 10) (omega arith)) (digit_is (n % 10) (omega arith)) (omega arith)

-- what was read as n, and what stands behind it
pub record Read (k : ℕ) (shown text : List ℕ) (n : ℕ) (rest : List ℕ) : Type 0 where
  pub small : n < k
  pub text_is : text ≡ shown ++ rest

pair_back : (a b n : ℕ) → is_ascii_digit a ≡ true → is_ascii_digit b ≡ true → (a - 48) * 10 + (b - 48) ≡ n → (n < 100) × (48 + n / 10 ≡ a) × (48 + n % 10 ≡ b)
pair_back a b n h k e = (grind (arith, common_steps), grind (arith, common_steps), grind (arith, common_steps))

pub two_back : (text : List ℕ) (n : ℕ) (rest : List ℕ) → two_of text ≡ Some (n, rest) → Read 100 (two_digit_text n) text n rest
two_back [] n rest h = absurd (cc)
two_back (a ∷ []) n rest h = absurd (cc)
two_back (a ∷ b ∷ text) n rest h =
    let g = guarded (is_ascii_digit a && is_ascii_digit b) (Some ((a - 48) * 10 + (b - 48), text)) (n, rest) h in
    let digits = both (is_ascii_digit a) (is_ascii_digit b) g.0 in
    let parts = some_pair_parts _ _ _ _ g.1 in
    let p = pair_back a b n digits.0 digits.1 parts.0 in
    record { small = p.0; text_is = rw (p.1, p.2, parts.1) refl }

pub four_forth : (n : ℕ) (rest : List ℕ) → n < 10_000 → four_of (four_digit_text n ++ rest) ≡ Some (n, rest)
unfolding four_of
four_forth n rest h =
    let again : n / 100 * 100 + n % 100 ≡ n = omega arith in
    rw (two_forth (n / 100) (two_digit_text (n % 100) ++ rest) (omega arith), two_forth (n % 100) rest (omega arith)) (ap (λ (v : ℕ). Some (v, rest)) again)

pub four_back : (text : List ℕ) (n : ℕ) (rest : List ℕ) → four_of text ≡ Some (n, rest) → Read 10_000 (four_digit_text n) text n rest
unfolding four_of
four_back text n rest h =
    let a = chained _ (two_of text) (n, rest) h in
    let b = mapped _ (two_of a.0.1) (n, rest) a.2 in
    let high = two_back text a.0.0 a.0.1 a.1 in
    let low = two_back a.0.1 b.0.0 b.0.1 b.1 in
    let value : a.0.0 * 100 + b.0.0 ≡ n = ap (λ (p : ℕ × List ℕ). p.0) b.2 in
    let behind : b.0.1 ≡ rest = ap (λ (p : ℕ × List ℕ). p.1) b.2 in
    let x : n / 100 ≡ a.0.0 = omega (arith, low.small) in
    let y : n % 100 ≡ b.0.0 = omega (arith, low.small) in
    record {
      small = omega (arith, low.small, high.small);
      text_is = rw (x, y) (high.text_is ∙ ap (λ (t : List ℕ). two_digit_text a.0.0 ++ t) (low.text_is ∙ ap (λ (t : List ℕ). two_digit_text b.0.0 ++ t) behind));
    }

pub field_forth : (mark n : ℕ) (rest : List ℕ) → n < 100 → field_of mark (mark ∷ (two_digit_text n ++ rest)) ≡ Some (n, rest)
field_forth mark n rest h = rw (eq-eqb mark mark refl) (two_forth n rest h)

pub field_back : (mark : ℕ) (text : List ℕ) (n : ℕ) (rest : List ℕ) → field_of mark text ≡ Some (n, rest) → Read 100 (mark ∷ two_digit_text n) text n rest
field_back mark [] n rest h = absurd (cc)
field_back mark (c ∷ text) n rest h =
    let g = guarded (c == mark) (two_of text) (n, rest) h in
    let b = two_back text n rest g.1 in
    record { small = b.small; text_is = rw (same_of c mark g.0, b.text_is) refl }

-- ---- the clock

minutes_at : (hour minute minutes : ℕ) (rest : List ℕ) → hour < 24 → minute < 60 → hour * 60 + minute ≡ minutes → minutes_of hour minute rest ≡ Some (minutes, rest)
minutes_at hour minute minutes rest h k e = rw e (grind (arith, common_steps))

pub clock_forth : (mark minutes : ℕ) (clock rest : List ℕ) → WritesMinutes clock minutes → clock_of mark (mark ∷ (clock ++ rest)) ≡ Some (minutes, rest)
unfolding clock_of
clock_forth mark minutes clock rest w =
    rw (w.text_is, field_forth mark w.hour (58 ∷ (two_digit_text w.minute ++ rest)) (omega (arith, w.hour_in)), field_forth 58 w.minute rest (omega (arith, w.minute_in))) (minutes_at w.hour w.minute minutes rest w.hour_in w.minute_in (sym w.minutes_is))

below_of : (n k : ℕ) → nat_lt n k ≡ true → n < k
below_of n k h = grind (arith, common_steps)

-- a clock that was read behind its mark
pub record ClockRead (mark : ℕ) (text : List ℕ) (minutes : ℕ) (rest : List ℕ) : Type 0 where
  pub clock : List ℕ
  pub writes : WritesMinutes clock minutes
  pub text_is : text ≡ mark ∷ (clock ++ rest)

pub clock_back : (mark : ℕ) (text : List ℕ) (n : ℕ) (rest : List ℕ) → clock_of mark text ≡ Some (n, rest) → ClockRead mark text n rest
unfolding clock_of
clock_back mark text n rest h =
    let a = chained _ (field_of mark text) (n, rest) h in
    let b = chained _ (field_of 58 a.0.1) (n, rest) a.2 in
    let g = guarded (nat_lt a.0.0 24 && nat_lt b.0.0 60) (Some (a.0.0 * 60 + b.0.0, b.0.1)) (n, rest) b.2 in
    let bounds = both (nat_lt a.0.0 24) (nat_lt b.0.0 60) g.0 in
    let parts = some_pair_parts _ _ _ _ g.1 in
    let hour = field_back mark text a.0.0 a.0.1 a.1 in
    let minute = field_back 58 a.0.1 b.0.0 b.0.1 b.1 in
    record {
      clock = two_digit_text a.0.0 ++ 58 ∷ two_digit_text b.0.0;
      writes = record { hour = a.0.0; minute = b.0.0; text_is = refl; hour_in = below_of _ _ bounds.0; minute_in = below_of _ _ bounds.1; minutes_is = sym parts.0 };
      text_is = hour.text_is ∙ ap (λ (t : List ℕ). (mark ∷ two_digit_text a.0.0) ++ t) (minute.text_is ∙ ap (λ (t : List ℕ). (58 ∷ two_digit_text b.0.0) ++ t) parts.1);
    }

-- ---- the second

pub seconds_at : (c : ℕ) (rest second : List ℕ) (within : ℕ) → (c == 58) ≡ false → (c == 46) ≡ false → is_ascii_digit c ≡ false → WritesSeconds second within → seconds_of (second ++ c ∷ rest) ≡ Some (within, c ∷ rest)
unfolding seconds_of
seconds_at c rest second within colon point digit (none t e) = rw (t, colon, e) refl
seconds_at c rest second within colon point digit (whole s t small e) =
    let in_minute : nat_lt s 60 ≡ true = grind (arith, common_steps) in
    rw (t, two_forth s (c ∷ rest) (omega arith), in_minute, point, e) refl
seconds_at c rest second within colon point digit (with_fraction s fraction t small k e) =
    let in_minute : nat_lt s 60 ≡ true = grind (arith, common_steps) in
    let all = only_digits 9 fraction k in
    let stop : digit_run (c ∷ rest) ≡ 0 = rw digit refl in
    rw (t, two_forth s (46 ∷ (fraction ++ c ∷ rest)) (omega arith), in_minute, front_digits fraction (c ∷ rest) all stop, behind_digits fraction (c ∷ rest) all stop, k, e) refl

-- a second that was read
pub record SecondRead (text : List ℕ) (within : ℕ) (rest : List ℕ) : Type 0 where
  pub second : List ℕ
  pub writes : WritesSeconds second within
  pub text_is : text ≡ second ++ rest

behind_back : (s : ℕ) (text : List ℕ) (within : ℕ) (rest : List ℕ) → s < 60 → after_second s text ≡ Some (within, rest) → SecondRead (58 ∷ (two_digit_text s ++ text)) within rest
behind_back s [] within rest small h =
    let parts = some_pair_parts _ _ _ _ h in
    record { second = 58 ∷ two_digit_text s; writes = whole s refl small (sym parts.0); text_is = ap (λ (t : List ℕ). 58 ∷ (two_digit_text s ++ t)) parts.1 }
behind_back s (c ∷ text) within rest small h =
    by_bool (c == 46)
    (λ e.
    let k : fraction_after s text ≡ Some (within, rest) = rw e at h in
    let m = mapped _ (fraction_of (take (digit_run text) text)) (within, rest) k in
    let g = guarded (is_digits 9 (take (digit_run text) text)) (Some (fraction_units (take (digit_run text) text))) m.0 m.1 in
    let value : s * units_of_second + m.0 ≡ within = ap (λ (p : ℕ × List ℕ). p.0) m.2 in
    let behind : drop (digit_run text) text ≡ rest = ap (λ (p : ℕ × List ℕ). p.1) m.2 in
    let units : fraction_units (take (digit_run text) text) ≡ m.0 = same_Some _ _ g.1 in
    let whole_text : text ≡ take (digit_run text) text ++ rest = sym (take-append-drop (digit_run text) text) ∙ ap (λ (t : List ℕ). take (digit_run text) text ++ t) behind in
    record {
      second = 58 ∷ (two_digit_text s ++ 46 ∷ take (digit_run text) text);
      writes = with_fraction s (take (digit_run text) text) refl small g.0 (sym value ∙ ap (λ (n : ℕ). s * units_of_second + n) (sym units));
      text_is = ap (λ (b : ℕ). 58 ∷ (two_digit_text s ++ b ∷ text)) (same_of c 46 e) ∙ ap (λ (t : List ℕ). 58 ∷ (two_digit_text s ++ 46 ∷ t)) whole_text;
    })
    (λ e.
    let k : ◌≡◌ {A = Option (ℕ × List ℕ)} (Some (s * units_of_second, c ∷ text)) (Some (within, rest)) = rw e at h in
    let parts = some_pair_parts _ _ _ _ k in
    record { second = 58 ∷ two_digit_text s; writes = whole s refl small (sym parts.0); text_is = ap (λ (t : List ℕ). 58 ∷ (two_digit_text s ++ t)) parts.1 })

no_second : (text : List ℕ) (within : ℕ) (rest : List ℕ) → ◌≡◌ {A = Option (ℕ × List ℕ)} (Some (0, text)) (Some (within, rest)) → SecondRead text within rest
no_second text within rest h =
    let parts = some_pair_parts _ _ _ _ h in
    record { second = []; writes = none refl (sym parts.0); text_is = parts.1 }

pub seconds_back : (text : List ℕ) (within : ℕ) (rest : List ℕ) → seconds_of text ≡ Some (within, rest) → SecondRead text within rest
unfolding seconds_of
seconds_back [] within rest h = no_second [] within rest h
seconds_back (c ∷ text) within rest h =
    by_bool (c == 58)
    (λ e.
    let k : option_and_then (λ (s : ℕ × List ℕ). second_of s.0 s.1) (two_of text) ≡ Some (within, rest) = rw e at h in
    let a = chained _ (two_of text) (within, rest) k in
    let g = guarded (nat_lt a.0.0 60) (after_second a.0.0 a.0.1) (within, rest) a.2 in
    let two_read = two_back text a.0.0 a.0.1 a.1 in
    let read = behind_back a.0.0 a.0.1 within rest (below_of _ _ g.0) g.1 in
    let P : List ℕ → Type 0 = λ t. SecondRead t within rest in
    subst P (ap (λ (t : List ℕ). 58 ∷ t) (sym two_read.text_is) ∙ ap (λ (b : ℕ). b ∷ text) (sym (same_of c 58 e))) read)
    (λ e. no_second (c ∷ text) within rest (rw e at h))

-- ---- the offset

whole_forth : (mark minutes : ℕ) (clock : List ℕ) → WritesMinutes clock minutes → whole_clock mark (mark ∷ clock) ≡ Some minutes
whole_forth mark minutes clock w =
    let e : clock_of mark (mark ∷ clock) ≡ Some (minutes, []) = subst (λ t. clock_of mark (mark ∷ t) ≡ Some (minutes, [])) (append-nil clock) (clock_forth mark minutes clock [] w) in
    rw e refl

longer : (mark c minutes : ℕ) (clock : List ℕ) → WritesMinutes clock minutes → is_mark_alone mark (c ∷ clock) ≡ false
longer mark c minutes clock w = rw w.text_is refl

pub offset_forth : (text : List ℕ) (ahead : ℤ) → WritesOffset text ahead → offset_of text ≡ Some ahead
unfolding offset_of
offset_forth text ahead (utc t e) = rw (t, e) refl
offset_forth text ahead (east clock minutes t w e) = rw (t, longer 90 43 minutes clock w, whole_forth 43 minutes clock w, e) refl
offset_forth text ahead (west clock minutes t w e) = rw (t, longer 90 45 minutes clock w, whole_forth 45 minutes clock w, e) refl

end_back : (m : ℕ) (rest : List ℕ) (n : ℕ) → at_end m rest ≡ Some n → (m ≡ n) × (rest ≡ [])
end_back m [] n h = (same_Some m n h, refl)
end_back m (c ∷ rest) n h = absurd (cc)

-- a clock that was read to the text's end
record WholeRead (mark : ℕ) (text : List ℕ) (minutes : ℕ) : Type 0 where
  pub clock : List ℕ
  pub writes : WritesMinutes clock minutes
  pub text_is : text ≡ mark ∷ clock

whole_back : (mark : ℕ) (text : List ℕ) (n : ℕ) → whole_clock mark text ≡ Some n → WholeRead mark text n
whole_back mark text n h =
    let a = chained _ (clock_of mark text) n h in
    let e = end_back a.0.0 a.0.1 n a.2 in
    let read = clock_back mark text a.0.0 a.0.1 a.1 in
    record {
      clock = read.clock;
      writes = subst (λ (m : ℕ). WritesMinutes read.clock m) e.0 read.writes;
      text_is = read.text_is ∙ ap (λ (t : List ℕ). mark ∷ (read.clock ++ t)) e.1 ∙ ap (λ (t : List ℕ). mark ∷ t) (append-nil read.clock);
    }

mark_back : (mark : ℕ) (text : List ℕ) → is_mark_alone mark text ≡ true → text ≡ mark ∷ []
mark_back mark [] h = absurd (cc)
mark_back mark (c ∷ []) h = ap (λ (b : ℕ). b ∷ []) (same_of c mark h)
mark_back mark (c ∷ d ∷ text) h = absurd (cc)

pub offset_back : (text : List ℕ) (ahead : ℤ) → offset_of text ≡ Some ahead → WritesOffset text ahead
unfolding offset_of
offset_back text ahead h =
    by_bool (is_mark_alone 90 text)
    (λ e.
    let k : ◌≡◌ {A = Option ℤ} (Some (pos 0)) (Some ahead) = rw e at h in
    utc (mark_back 90 text e) (sym (same_Some _ _ k)))
    (λ e.
    by_bool (begins_with 45 text)
    (λ f.
    let k : option_map (λ (n : ℕ). neg_ℤ (pos n)) (whole_clock 45 text) ≡ Some ahead = rw (e, f) at h in
    let m = mapped _ (whole_clock 45 text) ahead k in
    let read = whole_back 45 text m.0 m.1 in
    west read.clock m.0 read.text_is read.writes (sym m.2))
    (λ f.
    let k : option_map (λ (n : ℕ). pos n) (whole_clock 43 text) ≡ Some ahead = rw (e, f) at h in
    let m = mapped _ (whole_clock 43 text) ahead k in
    let read = whole_back 43 text m.0 m.1 in
    east read.clock m.0 read.text_is read.writes (sym m.2)))

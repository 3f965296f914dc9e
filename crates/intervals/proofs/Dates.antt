-- A date that the calendar has is told by its year, month and day.
use Rattle.std.proofs.Common.{◌≡◌, ℕ, true, ℤ, pos, ◌*ℤ◌, ap, subst, ◌∙◌, arith, Some, refl}
use Rattle.std.specs.Int.{IsInRange}
use Rattle.std.proofs.lemmas.Grind.{common_steps}
use Rattle.jiff_core.specs.declared.civil.date.Date.{Date}
use Rattle.jiff_core.specs.Date.{IsYmd, epoch_day}
use Rattle.jiff_core.specs.Calendar.{days_in_month, days_from_civil}
use Rattle.intervals.specs.Moments.{units_of_day}
use Rattle.intervals.specs.MomentTexts.{is_date, midnight_of}

is_date_of : (y m d : ℕ) → IsInRange 1 12 m → IsInRange 1 (days_in_month (pos y) m) d → is_date y m d ≡ true
is_date_of y m d month day = grind (arith, common_steps)

pub midnight_in : (y m d : ℕ) → IsInRange 1 12 m → IsInRange 1 (days_in_month (pos y) m) d → midnight_of y m d ≡ Some (days_from_civil (pos y) m d *ℤ pos units_of_day)
midnight_in y m d month day = rw (is_date_of y m d month day) refl

midnight_by : (year : ℤ) (m d y m₂ d₂ : ℕ) → year ≡ pos y → m ≡ m₂ → d ≡ d₂ → IsInRange 1 12 m → IsInRange 1 (days_in_month year m) d → midnight_of y m₂ d₂ ≡ Some (days_from_civil year m d *ℤ pos units_of_day)
midnight_by year m d y m₂ d₂ ey em ed month day =
    let P : ℕ → Type 0 = λ k. IsInRange 1 12 k in
    let Q : ℤ → Type 0 = λ z. IsInRange 1 (days_in_month z m) d in
    let R : ℕ → Type 0 = λ k. IsInRange 1 (days_in_month (pos y) k) d in
    let S : ℕ → Type 0 = λ k. IsInRange 1 (days_in_month (pos y) m₂) k in
    let e : days_from_civil (pos y) m₂ d₂ ≡ days_from_civil year m d = cc in
    midnight_in y m₂ d₂ (subst P em month) (subst S ed (subst R em (subst Q ey day))) ∙ ap (λ (days : ℤ). Some (days *ℤ pos units_of_day)) e

pos_injective : (m n : ℕ) → pos m ≡ pos n → m ≡ n
pos_injective m n h = cc

pub midnight_of_date : (date : Date) (y m d : ℕ) → IsYmd (pos y) (pos m) (pos d) date → midnight_of y m d ≡ Some (epoch_day date *ℤ pos units_of_day)
midnight_of_date date y m d h = midnight_by date.year date.month date.day y m d h.0 (pos_injective _ _ h.1) (pos_injective _ _ h.2) date.month_in date.day_in

use Rattle.std.proofs.Common.{◌≡◌, ℤ, pos, ◌*ℤ◌, Some, ap, sym, ◌∙◌, rules, arith, to_z, FitsSigned, w8, w16, w32}
use Rattle.std.specs.Int.{w128}
use Rattle.std.proofs.lemmas.Int.{ints, to_z-of_z}
use Rattle.jiff_core.specs.Date.{IsYmd}
use Rattle.intervals.specs.Moments.{units_of_day}
use Rattle.intervals.proofs.Dates.{midnight_of_date}
use Rattle.intervals.proofs.civil.midnight_of.Goals as goal

pub returns-in-Ok-clause-value : goal.returns-in-Ok-clause-value
returns-in-Ok-clause-value c =
    let h = c.in-Ok.ensures.value in
    let y : to_z w16 c.args.year ≡ pos c.args.year = omega (arith, ints) in
    let m : to_z w8 c.args.month ≡ pos c.args.month = omega (arith, ints) in
    let d : to_z w8 c.args.day ≡ pos c.args.day = omega (arith, ints) in
    let ymd : IsYmd (pos c.args.year) (pos c.args.month) (pos c.args.day) c.in-Ok.date = (h.0 ∙ y, h.1 ∙ m, h.2 ∙ d) in
    let e = midnight_of_date c.in-Ok.date _ _ _ ymd in
    let wide : FitsSigned w128 c.first_instant.result = search rules in
    let number : FitsSigned w32 c.to_unix_epoch_day.result = search rules in
    let v = simp to_z-of_z at c.first_instant.ensures.value in
    rw to_z-of_z (ap (λ (z : ℤ). Some z) (v ∙ ap (λ (z : ℤ). z *ℤ pos units_of_day) c.to_unix_epoch_day.ensures.value) ∙ sym e)

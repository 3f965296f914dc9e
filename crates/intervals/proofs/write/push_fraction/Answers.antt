use Rattle.std.proofs.Common.{ℕ, ◌<◌, List, [], ◌∷◌, ◌++◌, ap, ◌∙◌, arith, string_bytes}
use Rattle.intervals.proofs.Fractions.{Writing-step}
use Rattle.intervals.proofs.write.push_fraction.Goals as goal

pub loop-done-preserved : goal.loop-done-preserved
loop-done-preserved c =
    let ascii : c.digit.result < 128 = omega arith in
    let e = c.in_ok-push-2.ensures.ascii ascii ∙ ap (λ (d : ℕ). d ∷ []) c.digit.ensures.value in
    Writing-step _ _ _ _ _ _ _ c.loop-done.invariant c.loop-done-test.true (omega arith) c.digit_worth-worth.ensures.value (c.in_ok-push-2.ensures.bytes ∙ ap (λ (ds : List ℕ). string_bytes c.loop-done.text ++ ds) e)

use Rattle.std.proofs.Common.{◌<◌, ◌++◌, ◌∷◌, [], ℕ, List, ap, arith, length, sym, ◌∙◌}
use Rattle.findings.proofs.Stepping.{first-next}
use Rattle.findings.proofs.walk.first_finding.Goals as goal

pub dimensions-preserved : goal.dimensions-preserved
dimensions-preserved c =
    let within : c.dimensions.counter < length c.args.strata.now.dimensions = omega arith in
    c.in_ok-push.ensures.ok ∙ ap (λ (x : List ℕ). x ++ 0 ∷ []) c.dimensions.invariant ∙ sym (first-next c.args.strata.now.dimensions c.dimensions.counter within)

use Rattle.std.proofs.Common.{refl, subst, sym}
use Rattle.std.specs.Prelude.{Contains}
use Rattle.findings.proofs.steps.is_above_in.Goals as goal

pub returns-then-not-is_right_below : goal.returns-then-not-is_right_below
returns-then-not-is_right_below c =
    let says = rw c.predicate_number_at.ensures at c.is_right_below.ensures in (
      λ e right. let yes = says.1 right in absurd (cc),
      λ h. refl,
    )

pub returns : goal.returns
returns c =
    let says = rw c.predicate_number_at.ensures at c.is_right_below.ensures in (
      λ e right. subst (Contains c.args.set.now.keys) c.in_ok-above.ensures (c.is_among.ensures.0 e),
      λ all. c.is_among.ensures.1 (subst (Contains c.args.set.now.keys) (sym c.in_ok-above.ensures) (all (says.0 (cc)))),
    )

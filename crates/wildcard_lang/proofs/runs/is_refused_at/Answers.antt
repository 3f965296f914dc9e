use Rattle.std.proofs.Common.{arith, not, ap, sym, ◌∙◌}
use Rattle.wildcard_lang.proofs.Refusing.{refused_where}
use Rattle.wildcard_lang.proofs.runs.is_refused_at.Goals as goal

pub returns : goal.returns
returns g c h =
    refused_where g.X.Taken.taken _ _ _ _ _ c.requires (omega (arith, c.if-place-run.false)) c.in-Some.ensures (ap not (sym c.is_taken.ensures) ∙ h)

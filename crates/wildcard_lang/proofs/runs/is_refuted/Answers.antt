use Rattle.std.proofs.Common.{arith}
use Rattle.wildcard_lang.proofs.Refusing.{refuted}
use Rattle.wildcard_lang.proofs.runs.is_refuted.Goals as goal

pub returns : goal.returns
returns g c h = refuted g.X.Taken.taken _ _ _ _ _ c.requires (omega (arith, c.if-probe-run.false)) c.is_refused.ensures h

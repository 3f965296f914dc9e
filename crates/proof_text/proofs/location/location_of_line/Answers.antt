use Rattle.std.proofs.Common.{arith}
use Rattle.proof_text.proofs.Fronts.{at-end, at-next}
use Rattle.proof_text.proofs.location.location_of_line.Goals as goal

pub returns-in_default : goal.returns-in_default
returns-in_default c =
    at-end c.args.bytes.now c.args.line c.loop-number.number c.loop-number.location c.loop-number.invariant (omega arith) c.in_default.ensures.0

pub loop-number-preserved : goal.loop-number-preserved
loop-number-preserved c =
    at-next c.args.bytes.now c.in-Ok.field-0-0.now c.loop-number.number c.loop-number.location c.in-Ok.behind c.loop-number.invariant c.in-Ok.ensures

use Rattle.std.proofs.Common.{refl, Ok}
use Rattle.proof_text.specs.LineForms.{ExpectKindProof}
use Rattle.proof_text.specs.Lines.{never_line}
use Rattle.proof_text.proofs.Taking.{closed-read, leads-alone}
use Rattle.proof_text.proofs.slots.read_kind.Goals as goal

pub returns-in-Ok-Never : goal.returns-in-Ok-Never
returns-in-Ok-Never c =
    let known = rw c.in-Ok-Never.field-0-is at c.in-Ok-Never.ensures in
    leads-alone c.args.limits ExpectKindProof c.args.location c.in_ok-line.behind c.in_ok-line.line.now never_line c.in_ok-line.ensures known.0 known.1 refl

pub returns-in_ok-closed-in-Ok-Closed : goal.returns-in_ok-closed-in-Ok-Closed
returns-in_ok-closed-in-Ok-Closed c =
    let known = rw c.in-Ok-Closed.field-0-is at c.in-Ok-Closed.ensures in
    closed-read c.args.limits ExpectKindProof c.args.location c.in_ok-line.behind c.in_ok-line.line.now c.in-Ok-Closed.count (Ok (c.in_ok-closed-in-Ok-Closed.closed, c.in_ok-closed-in-Ok-Closed.end)) c.in_ok-line.ensures known.0 known.1
    c.in_ok-closed-in-Ok-Closed.ensures.states c.in_ok-closed-in-Ok-Closed.ensures.count

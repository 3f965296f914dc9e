use Rattle.std.proofs.Common.{refl}
use Rattle.proof_text.specs.LineForms.{ExpectState}
use Rattle.proof_text.specs.Lines.{places_line}
use Rattle.proof_text.proofs.Taking.{leads-alone}
use Rattle.proof_text.proofs.states.read_state.Goals as goal

pub returns-in-Ok : goal.returns-in-Ok
returns-in-Ok c = leads-alone c.args.limits ExpectState c.args.location c.in_ok-line.behind c.in_ok-line.line.now (places_line c.in-Ok.lists) c.in_ok-line.ensures c.in-Ok.ensures.0 c.in-Ok.ensures.1 refl

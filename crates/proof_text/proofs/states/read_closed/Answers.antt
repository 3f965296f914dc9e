use Rattle.proof_text.specs.LineForms.{ExpectClosedSet}
use Rattle.proof_text.proofs.Taking.{closed-read}
use Rattle.proof_text.proofs.states.read_closed.Goals as goal

pub returns-in-Ok : goal.returns-in-Ok
returns-in-Ok c = closed-read c.args.limits ExpectClosedSet c.args.location c.in_ok-line.behind c.in_ok-line.line.now c.in-Ok.count c.read_states.result c.in_ok-line.ensures c.in-Ok.ensures.0 c.in-Ok.ensures.1 c.read_states.ensures.states c.read_states.ensures.count

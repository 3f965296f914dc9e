use Rattle.std.proofs.Common.{arith}
use Rattle.proof_text.proofs.Decimals.{one-place}
use Rattle.proof_text.proofs.states.push_places.Goals as goal

pub returns-in-Some : goal.returns-in-Some
returns-in-Some c = one-place c.args.part.now c.in-Some.place c.args.lists.now c.push.new.self c.in-Some.ensures (omega arith) c.in_ok-push.ensures.ok

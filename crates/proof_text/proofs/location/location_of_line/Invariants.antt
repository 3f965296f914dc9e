use Rattle.proof_text.proofs.Fronts.{IsAtLine}
use Rattle.proof_text.proofs.location.location_of_line.Given as goal

abbrev pub invariant-loop-number : goal.invariant-loop-number
invariant-loop-number l = IsAtLine l.fn.bytes l.number l.location

use Rattle.std.proofs.Common.{◌≡◌, length, map, replicate}
use Rattle.proof_text.specs.LineForms.{ExpectState}
use Rattle.proof_text.specs.Lines.{places_line}
use Rattle.proof_text.specs.Steps.{TakesLines}
use Rattle.proof_text.proofs.states.read_states.Given as goal

abbrev pub invariant-loop-done : goal.invariant-loop-done
invariant-loop-done l = TakesLines l.limits (replicate l.done ExpectState) l.fn.location (map places_line l.set) l.at × (length l.set ≡ l.done)

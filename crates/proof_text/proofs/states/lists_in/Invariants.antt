use Rattle.std.specs.Option.{option_copied}
use Rattle.proof_text.specs.LineForms.{places_in}
use Rattle.proof_text.specs.Steps.{are_small, parts_left}
use Rattle.proof_text.proofs.Reading.{IsReadSoFar, rest_size}
use Rattle.proof_text.proofs.states.lists_in.Given as goal

abbrev pub invariant-loop-rest : goal.invariant-loop-rest
invariant-loop-rest l = IsReadSoFar places_in are_small (parts_left 32 (option_copied l.fn.behind)) (parts_left 32 (option_copied l.rest)) l.large l.lists

abbrev pub decreases-loop-rest : goal.decreases-loop-rest
decreases-loop-rest l = rest_size (option_copied l.rest)

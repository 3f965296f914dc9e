use Rattle.std.proofs.Common.{◌≡◌, drop}
use Rattle.pattern_automata.specs.Closed.{rises_from}
use Rattle.proof_text.proofs.numbers.rises.Given as goal

abbrev pub invariant-loop-number : goal.invariant-loop-number
invariant-loop-number l = rises_from 0 l.numbers ≡ rises_from l.least (drop l.number-index l.numbers)

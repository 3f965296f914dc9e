use Rattle.intervals.proofs.Numbers.{ReadSoFar}
use Rattle.intervals.proofs.digits.number.Given as goal

abbrev pub invariant-loop-digit : goal.invariant-loop-digit
invariant-loop-digit l = ReadSoFar l.text l.digit-index l.number

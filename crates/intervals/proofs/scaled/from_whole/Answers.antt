use Rattle.std.proofs.Common.{arith}
use Rattle.std.proofs.lemmas.Int.{ints}
use Rattle.intervals.proofs.scaled.from_whole.Goals as goal

pub overflow_mul-result : goal.overflow_mul-result
overflow_mul-result c = rw c.from.ensures (omega (arith, ints))

pub invariant_of-result : goal.invariant_of-result
invariant_of-result c = rw c.from.ensures (omega (arith, ints))

pub returns-then-unsigned_abs-lt-WHOLE_LIMIT-clause-value :
    goal.returns-then-unsigned_abs-lt-WHOLE_LIMIT-clause-value
returns-then-unsigned_abs-lt-WHOLE_LIMIT-clause-value c = rw c.from.ensures (omega (arith, ints))

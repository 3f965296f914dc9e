use Rattle.std.proofs.Common.{arith}
use Rattle.std.proofs.lemmas.Int.{ints}
use Rattle.intervals.proofs.clock.offset_taken_off.Goals as goal

pub overflow_mul-result : goal.overflow_mul-result
overflow_mul-result c = rw (c.from-2.ensures, c.from-3.ensures) (omega (arith, ints))

pub overflow_sub-result : goal.overflow_sub-result
overflow_sub-result c = rw (c.from.ensures, c.from-2.ensures, c.from-3.ensures) (omega (arith, ints))

pub returns-clause-value : goal.returns-clause-value
returns-clause-value c = rw (c.from.ensures, c.from-2.ensures, c.from-3.ensures) (omega (arith, ints))

pub returns-clause-small : goal.returns-clause-small
returns-clause-small c = rw (c.from.ensures, c.from-2.ensures, c.from-3.ensures) (omega (arith, ints))

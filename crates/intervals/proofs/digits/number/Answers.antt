use Rattle.std.proofs.Common.{sym, ◌∙◌, arith, rules}
use Rattle.std.proofs.lemmas.Grind.{common_steps}
use Rattle.intervals.proofs.Numbers.{ReadSoFar-step, ReadSoFar-room, ReadSoFar-below}
use Rattle.intervals.proofs.digits.number.Goals as goal

pub overflow_mul-number : goal.overflow_mul-number
overflow_mul-number c = omega (arith, ReadSoFar-room _ _ _ c.loop-digit.invariant c.loop-digit-test.true (omega arith))

pub overflow_add-number : goal.overflow_add-number
overflow_add-number c = omega (arith, ReadSoFar-room _ _ _ c.loop-digit.invariant c.loop-digit-test.true (omega arith), c.type_inv.text c.loop-digit.digit-index)

pub loop-digit-preserved : goal.loop-digit-preserved
loop-digit-preserved c =
    rw c.from.ensures (ReadSoFar-step _ _ _ c.loop-digit.invariant c.loop-digit-test.true (sym c.is_ascii_digit.ensures.value ∙ c.if-not-is_ascii_digit.false))

pub returns-clause-below : goal.returns-clause-below
returns-clause-below c = ReadSoFar-below _ _ _ _ c.loop-digit.invariant (omega arith)

pub returns-clause-value : goal.returns-clause-value
returns-clause-value c = grind (arith, common_steps)

pub returns-clause-fits : goal.returns-clause-fits
returns-clause-fits c = search rules

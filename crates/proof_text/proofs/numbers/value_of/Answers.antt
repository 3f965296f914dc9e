use Rattle.std.proofs.Common.{◌+◌, arith}
use Rattle.proof_text.proofs.Bytes.{digit-code, value-front, value-more}
use Rattle.proof_text.proofs.numbers.value_of.Goals as goal

pub overflow_sub-digit : goal.overflow_sub-digit
overflow_sub-digit c = omega (arith, digit-code c.args.digits.now c.loop-digit.digit-index c.requires (omega arith))

pub returns-then-value-from : goal.returns-then-value-from
returns-then-value-from c =
    let more = value-more c.args.digits.now c.loop-digit.digit-index c.loop-digit.value c.requires (omega arith) c.loop-digit.invariant.0 in
    let front = value-front c.args.digits.now (c.loop-digit.digit-index + 1) in
    omega (arith, more, front)

pub loop-digit-preserved : goal.loop-digit-preserved
loop-digit-preserved c =
    let more = value-more c.args.digits.now c.loop-digit.digit-index c.loop-digit.value c.requires (omega arith) c.loop-digit.invariant.0 in
    (omega (arith, more), omega arith)

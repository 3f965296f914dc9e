use Rattle.std.proofs.Common.{arith}
use Rattle.pattern_automata.proofs.Bits.{rest-small, bit-small}
use Rattle.pattern_automata.proofs.words.word_with.Goals as goal

pub overflow_mul-word : goal.overflow_mul-word
overflow_mul-word c = omega (arith, c.loop-i.invariant.1, rest-small _ _ c.loop-i-test.true c.requires)

pub overflow_add-word : goal.overflow_add-word
overflow_add-word c = omega (arith, c.loop-i.invariant.1, rest-small _ _ c.loop-i-test.true c.requires, bit-small _ _ c.from.ensures)

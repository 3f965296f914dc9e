use Rattle.std.proofs.Common.{◌*◌, arith}
use Rattle.pattern_automata.specs.Moves.{piece_does}
use Rattle.pattern_automata.proofs.Bits.{bit-small}
use Rattle.pattern_automata.proofs.Fronting.{word-half, word-bits}
use Rattle.pattern_automata.proofs.fronts.word_at.Goals as goal

pub overflow_mul-word : goal.overflow_mul-word
overflow_mul-word c = omega (arith, word-half (piece_does c.args.kind c.args.fronts.now) (64 * c.args.index) c.loop-i.i c.loop-i.word c.loop-i-test.true c.loop-i.invariant.1)

pub overflow_add-word : goal.overflow_add-word
overflow_add-word c = omega (arith, word-half (piece_does c.args.kind c.args.fronts.now) (64 * c.args.index) c.loop-i.i c.loop-i.word c.loop-i-test.true c.loop-i.invariant.1, bit-small _ _ c.from.ensures)

pub returns : goal.returns
returns c = word-bits (piece_does c.args.kind c.args.fronts.now) (64 * c.args.index) c.loop-i.i c.loop-i.word c.loop-i-test.false c.loop-i.invariant.1

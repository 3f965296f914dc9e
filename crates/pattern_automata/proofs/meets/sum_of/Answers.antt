use Rattle.std.proofs.Common.{arith}
use Rattle.pattern_automata.proofs.Parts.{total-more}
use Rattle.pattern_automata.proofs.meets.sum_of.Goals as goal

pub loop-pattern-preserved : goal.loop-pattern-preserved
loop-pattern-preserved c = omega (arith, total-more _ _ _ c.loop-pattern-test.true c.pattern-item.is)

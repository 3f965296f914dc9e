use Rattle.std.proofs.Common.{arith}
use Rattle.std.proofs.lemmas.Grind.{common_steps}
use Rattle.pattern_automata.proofs.Parts.{total-more, total-parts}
use Rattle.pattern_automata.proofs.Meeting.{ends-more}
use Rattle.pattern_automata.proofs.meets.ends_of.Goals as goal

pub overflow_add-end : goal.overflow_add-end
overflow_add-end c = omega (arith, total-parts _ _ _ c.loop-pattern-test.true c.pattern-item.is)

pub overflow_add-at : goal.overflow_add-at
overflow_add-at c = omega (arith, total-parts _ _ _ c.loop-pattern-test.true c.pattern-item.is)

pub loop-pattern-preserved : goal.loop-pattern-preserved
loop-pattern-preserved c = (
  omega (arith, total-more _ _ _ c.loop-pattern-test.true c.pattern-item.is),
  grind (arith, common_steps, c.in_ok-push.ensures.items),
  ends-more _ _ _ _ _ _ c.loop-pattern-test.true c.pattern-item.is c.in_ok-push.ensures.items (omega arith) c.loop-pattern.invariant.1 c.loop-pattern.invariant.2,
)

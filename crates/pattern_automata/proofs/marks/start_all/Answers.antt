use Rattle.std.proofs.Common.{arith, ◌∙◌}
use Rattle.pattern_automata.proofs.Parts.{total-parts, total-more, start-turn, start-end}
use Rattle.pattern_automata.proofs.marks.start_all.Goals as goal

pub overflow_add-end : goal.overflow_add-end
overflow_add-end c = omega (arith, total-parts _ _ _ c.loop-pattern-test.true c.pattern-item.is)

pub overflow_add-end-in-loop-pattern : goal.overflow_add-end-in-loop-pattern
overflow_add-end-in-loop-pattern c = omega (arith, total-parts _ _ _ c.loop-pattern-test.true c.pattern-item.is)

pub slice_bounds-start_places-end : goal.slice_bounds-start_places-end
slice_bounds-start_places-end c = omega (arith, total-parts _ _ _ c.loop-pattern-test.true c.pattern-item.is)

pub loop-pattern-preserved : goal.loop-pattern-preserved
loop-pattern-preserved c =
    let sizes = total-more _ _ _ c.loop-pattern-test.true c.pattern-item.is in
    let parts = total-parts _ _ _ c.loop-pattern-test.true c.pattern-item.is in (
      omega (arith, sizes),
      start-turn _ _ _ c.loop-pattern-test.true c.pattern-item.is _ _ _ _ _ (omega arith) (omega arith) (omega (arith, parts)) c.loop-pattern.invariant.1 c.start_places.ensures,
    )

pub returns : goal.returns
returns c = start-end _ _ _ _ c.loop-pattern-test.false c.loop-pattern.invariant.0 (c.loop-pattern.auto.marks ∙ c.requires) c.loop-pattern.invariant.1

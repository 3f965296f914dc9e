use Rattle.std.proofs.Common.{arith}
use Rattle.pattern_automata.proofs.Parts.{total-parts, total-more}
use Rattle.pattern_automata.proofs.Listing.{lists-pushed}
use Rattle.pattern_automata.proofs.places.add_lists.Goals as goal

pub loop-pattern-preserved : goal.loop-pattern-preserved
loop-pattern-preserved c =
    let pushed =
    lists-pushed c.args.patterns.now c.loop-pattern.pattern-index _ c.args.words.now c.loop-pattern.at _ c.loop-pattern-test.true c.pattern-item.is (omega arith) c.loop-pattern.invariant.0
    _ c.loop-pattern.ends.items _ c.loop-pattern.places.items _ _ c.loop-pattern.invariant.1 c.loop-pattern.invariant.2 c.in_ok-add_places.ensures (omega (arith, c.len.ensures)) c.in_ok-push.ensures.items in
    (omega (arith, total-more _ _ _ c.loop-pattern-test.true c.pattern-item.is), pushed.0, pushed.1)

pub add_places-requires-clause-within : goal.add_places-requires-clause-within
add_places-requires-clause-within c = omega (arith, total-parts _ _ _ c.loop-pattern-test.true c.pattern-item.is, c.requires.size, c.loop-pattern.invariant.0, c.len-count.ensures.value)

pub add_places-requires-clause-room : goal.add_places-requires-clause-room
add_places-requires-clause-room c = omega (arith, total-parts _ _ _ c.loop-pattern-test.true c.pattern-item.is, c.requires.room, c.loop-pattern.invariant.0, c.len-count.ensures.value)

pub overflow_add-at : goal.overflow_add-at
overflow_add-at c = omega (arith, total-parts _ _ _ c.loop-pattern-test.true c.pattern-item.is, c.requires.room, c.loop-pattern.invariant.0, c.len-count.ensures.value)

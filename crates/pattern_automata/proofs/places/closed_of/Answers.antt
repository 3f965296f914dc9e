use Rattle.std.proofs.Common.{arith}
use Rattle.pattern_automata.proofs.Listing.{states-more}
use Rattle.pattern_automata.proofs.places.closed_of.Goals as goal

pub loop-i-preserved : goal.loop-i-preserved
loop-i-preserved c =
    let more =
    states-more c.args.patterns.now c.args.found.now c.loop-i.i _ c.loop-i.ends.items _ c.loop-i.places.items _ c.loop-i.states.items _ _ c.get.ensures c.in_ok-add_lists.ensures.lists c.loop-i.invariant.1 c.loop-i.invariant.2 c.loop-i.invariant.3
    (omega (arith, c.len-end.ensures)) c.in_ok-push.ensures.items in
    (c.in_ok-add_lists.ensures.ends, more.0, more.1, more.2)

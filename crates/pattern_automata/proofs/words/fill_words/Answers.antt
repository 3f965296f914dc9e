use Rattle.pattern_automata.proofs.Packing.{fill-next}
use Rattle.pattern_automata.proofs.words.fill_words.Goals as goal

pub loop-index-preserved : goal.loop-index-preserved
loop-index-preserved c =
    let w = c.loop-index.invariant in
    fill-next c.args.moved.now c.args.leads.now c.loop-index.index c.loop-index.words.items c.fill-word.result c.loop-index.below w.0 w.1 w.2 w.3 c.fill-word.type_inv c.fill-word.ensures _ _ c.in_ok-push.ensures.items c.is_on-below.ensures

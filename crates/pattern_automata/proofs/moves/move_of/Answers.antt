use Rattle.pattern_automata.proofs.Telling.{told-next}
use Rattle.pattern_automata.proofs.moves.move_of.Goals as goal

pub loop-index-preserved : goal.loop-index-preserved
loop-index-preserved c =
    told-next c.args.fronts.now c.loop-index.index c.args.c c.patch_at-patch.result c.loop-index.patches.items c.push_patch.new.patches.items c.patch_at-patch.ensures c.in_ok-push_patch.ensures c.loop-index.invariant

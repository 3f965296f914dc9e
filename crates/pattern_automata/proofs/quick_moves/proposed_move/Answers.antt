use Rattle.pattern_automata.proofs.Proposing.{proposed-next}
use Rattle.pattern_automata.proofs.quick_moves.proposed_move.Goals as goal

pub loop-word-preserved : goal.loop-word-preserved
loop-word-preserved c =
    proposed-next c.args.fronts.now c.args.c c.proposed_patch-patch.result c.loop-word.patches.items c.push_patch.new.patches.items c.proposed_patch-patch.ensures c.in_ok-push_patch.ensures c.loop-word.invariant

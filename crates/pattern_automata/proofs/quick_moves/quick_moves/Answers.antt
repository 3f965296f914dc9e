use Rattle.pattern_automata.proofs.Proposing.{all-moves}
use Rattle.pattern_automata.proofs.quick_moves.quick_moves.Goals as goal

pub returns-clause-moves : goal.returns-clause-moves
returns-clause-moves c =
    all-moves c.args.fronts.now c.in_ok-indices.indices c.in_ok-moves.moves.items c.args.named.now c.requires.named c.in_ok-moves.ensures.moves
    (rw c.as_slice-2.ensures.value at (c.are_at_their_indices.ensures c.if-not-are_at_their_indices.false)) (rw c.as_slice-3.ensures.value at (c.have_all_patches.ensures c.if-not-have_all_patches.false))

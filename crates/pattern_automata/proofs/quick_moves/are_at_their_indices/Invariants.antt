use Rattle.std.proofs.Common.{◌≡◌, ◌<◌, ℕ, Some, get_or}
use Rattle.pattern_automata.specs.declared.moves.Move.{Move}
use Rattle.pattern_automata.specs.Proposals.{index_in}
use Rattle.pattern_automata.proofs.quick_moves.are_at_their_indices.Given as goal

abbrev pub invariant-loop-i : goal.invariant-loop-i
invariant-loop-i l = (k : ℕ) (d : Move) → k < l.i → index_in l.indices (get_or l.moves k d).character ≡ Some k

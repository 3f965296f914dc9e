use Rattle.std.proofs.Common.{◌*◌}
use Rattle.pattern_automata.specs.Moves.{IsDistinguished}
use Rattle.pattern_automata.proofs.moves.move_of.Given as goal

abbrev pub invariant-loop-index : goal.invariant-loop-index
invariant-loop-index l = IsDistinguished l.fronts (64 * l.index) l.c l.patches.items

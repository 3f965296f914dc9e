use Rattle.std.proofs.Common.{All}
use Rattle.pattern_automata.specs.Moves.{IsPatch}
use Rattle.pattern_automata.proofs.quick_moves.proposed_move.Given as goal

abbrev pub invariant-loop-word : goal.invariant-loop-word
invariant-loop-word l = All (IsPatch l.fronts l.c) l.patches.items

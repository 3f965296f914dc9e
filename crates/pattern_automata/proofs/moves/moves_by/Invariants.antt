use Rattle.std.proofs.Common.{◌≡◌, All, take}
use Rattle.pattern_automata.specs.Moves.{IsMove, characters_of}
use Rattle.pattern_automata.proofs.moves.moves_by.Given as goal

abbrev pub invariant-loop-c : goal.invariant-loop-c
invariant-loop-c l = All (IsMove l.fronts) l.moves.items × (characters_of l.moves.items ≡ take l.c-index l.characters)

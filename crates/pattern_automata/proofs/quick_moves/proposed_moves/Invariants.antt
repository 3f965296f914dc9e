use Rattle.std.proofs.Common.{◌≡◌, All, take}
use Rattle.pattern_automata.specs.Moves.{characters_of}
use Rattle.pattern_automata.specs.Proposals.{HasRightPatches}
use Rattle.pattern_automata.proofs.quick_moves.proposed_moves.Given as goal

abbrev pub invariant-loop-i : goal.invariant-loop-i
invariant-loop-i l = All (HasRightPatches l.fronts) l.moves.items × (characters_of l.moves.items ≡ take l.i l.characters)

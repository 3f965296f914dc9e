use Rattle.std.proofs.Common.{◌≡◌, take}
use Rattle.pattern_automata.specs.Last.{patches_of}
use Rattle.pattern_automata.proofs.last.have_same_patches.Given as goal

abbrev pub invariant-moves : goal.invariant-moves
invariant-moves l = patches_of (take l.i l.moves) ≡ patches_of (take l.i l.others)

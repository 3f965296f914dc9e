use Rattle.std.proofs.Common.{All, take}
use Rattle.pattern_automata.specs.declared.named.Named.{Named}
use Rattle.pattern_automata.specs.Proposals.{HasItsPatch}
use Rattle.pattern_automata.proofs.quick_moves.have_their_patches.Given as goal

abbrev pub invariant-loop-own : goal.invariant-loop-own
invariant-loop-own l = All (λ (x : Named). HasItsPatch l.indices l.moves l.index x.character) (take l.own-index l.named)

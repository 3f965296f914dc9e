use Rattle.std.proofs.Common.{take}
use Rattle.pattern_automata.specs.Named.{HasNone}
use Rattle.pattern_automata.proofs.named.position.Given as goal

abbrev pub invariant-loop-i : goal.invariant-loop-i
invariant-loop-i l = HasNone l.c (take l.i l.named)

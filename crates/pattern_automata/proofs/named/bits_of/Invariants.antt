use Rattle.std.proofs.Common.{◌≡◌, drop}
use Rattle.pattern_automata.specs.Named.{bits_of}
use Rattle.pattern_automata.proofs.named.bits_of.Given as goal

abbrev pub invariant-loop-own : goal.invariant-loop-own
invariant-loop-own l = bits_of (drop l.own-index l.named) l.c ≡ bits_of l.named l.c

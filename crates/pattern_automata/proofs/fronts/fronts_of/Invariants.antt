use Rattle.std.proofs.Common.{◌≡◌, take}
use Rattle.pattern_automata.specs.Moves.{fronts}
use Rattle.pattern_automata.proofs.fronts.fronts_of.Given as goal

abbrev pub invariant-loop-pattern : goal.invariant-loop-pattern
invariant-loop-pattern l = l.fronts.items ≡ fronts (take l.pattern-index l.patterns)

use Rattle.std.proofs.Common.{◌≡◌, take}
use Rattle.pattern_automata.specs.Marks.{mark_count}
use Rattle.pattern_automata.proofs.meets.sum_of.Given as goal

abbrev pub invariant-loop-pattern : goal.invariant-loop-pattern
invariant-loop-pattern l = l.sum ≡ mark_count (take l.pattern-index l.patterns)

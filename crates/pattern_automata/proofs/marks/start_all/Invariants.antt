use Rattle.std.proofs.Common.{◌≡◌, [], take}
use Rattle.pattern_automata.specs.Marks.{all_marks, mark_count}
use Rattle.pattern_automata.proofs.marks.start_all.Given as goal

abbrev pub invariant-loop-pattern : goal.invariant-loop-pattern
invariant-loop-pattern l =
    (l.at ≡ mark_count (take l.pattern-index l.patterns))
    × (take l.at l.marks ≡ all_marks (take l.pattern-index l.patterns) [])

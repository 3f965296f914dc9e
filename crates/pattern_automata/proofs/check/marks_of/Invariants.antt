use Rattle.std.proofs.Common.{◌≡◌, take}
use Rattle.pattern_automata.specs.Marks.{marks_from}
use Rattle.pattern_automata.proofs.check.marks_of.Given as goal

abbrev pub invariant-loop-i : goal.invariant-loop-i
invariant-loop-i l = l.marks.items ≡ marks_from (take l.i l.patterns) (take l.i l.state)

use Rattle.std.proofs.Common.{take}
use Rattle.pattern_automata.specs.Checked.{HavePassed}
use Rattle.pattern_automata.proofs.check.all_pass.Given as goal

abbrev pub invariant-loop-i : goal.invariant-loop-i
invariant-loop-i l = HavePassed l.wants l.machine l.index (take l.i l.found)

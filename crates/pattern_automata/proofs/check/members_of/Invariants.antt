use Rattle.std.proofs.Common.{take}
use Rattle.pattern_automata.specs.Checked.{AreMembers}
use Rattle.pattern_automata.proofs.check.members_of.Given as goal

abbrev pub invariant-loop-i : goal.invariant-loop-i
invariant-loop-i l = AreMembers l.patterns (take l.i l.closed) l.members

use Rattle.std.proofs.Common.{◌≡◌, take}
use Rattle.pattern_automata.proofs.last.are_same_literals.Given as goal

abbrev pub invariant-literals : goal.invariant-literals
invariant-literals l = take l.i l.literals ≡ take l.i l.others

use Rattle.std.proofs.Common.{◌≡◌, take}
use Rattle.pattern_automata.proofs.search.are_same.Given as goal

abbrev pub invariant-loop-i : goal.invariant-loop-i
invariant-loop-i l = take l.i l.patches ≡ take l.i l.others

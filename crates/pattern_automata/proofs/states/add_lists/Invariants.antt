use Rattle.std.proofs.Common.{◌≡◌, ◌++◌, take}
use Rattle.pattern_automata.proofs.states.add_lists.Given as goal

abbrev pub invariant-loop-i : goal.invariant-loop-i
invariant-loop-i l = l.lists ≡ l.fn.lists ++ take l.i l.state

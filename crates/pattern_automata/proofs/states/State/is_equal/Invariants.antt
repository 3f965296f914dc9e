use Rattle.std.proofs.Common.{◌≡◌, length, take}
use Rattle.pattern_automata.proofs.states.State.is_equal.Given as goal

abbrev pub invariant-lists : goal.invariant-lists
invariant-lists l = (length l.self ≡ length l.other) × (take l.i l.self ≡ take l.i l.other)

use Rattle.std.proofs.Common.{◌≡◌, length, take}
use Rattle.refute_check.proofs.sharing.are_states_equal.Given as goal

abbrev pub invariant-lists : goal.invariant-lists
invariant-lists l = (length l.one ≡ length l.other) × (take l.i l.one ≡ take l.i l.other)

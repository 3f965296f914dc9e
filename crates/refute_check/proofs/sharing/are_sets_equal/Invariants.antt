use Rattle.std.proofs.Common.{◌≡◌, length, take}
use Rattle.refute_check.proofs.sharing.are_sets_equal.Given as goal

abbrev pub invariant-states : goal.invariant-states
invariant-states l = (length l.one ≡ length l.other) × (take l.i l.one ≡ take l.i l.other)

use Rattle.std.proofs.Common.{◌≢◌, ◌<◌, ◌≤◌, ℕ, Bool, length, get_or}
use Rattle.slot_theory.specs.Slots.{slot_of, test_at}
use Rattle.slot_theory.proofs.search.last_on.Given as goal

abbrev pub invariant-loop-i : goal.invariant-loop-i
invariant-loop-i l = (k : ℕ) (d : ℕ × Bool) → l.i ≤ k → k < length l.answers → slot_of (test_at l.tests (get_or l.answers k d).0) ≢ l.slot

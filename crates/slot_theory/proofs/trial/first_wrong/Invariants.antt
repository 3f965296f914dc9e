use Rattle.std.proofs.Common.{◌≡◌, ◌<◌, ℕ, Bool, get_or}
use Rattle.slot_theory.specs.Slots.{slot_of, test_at, AnswersTest}
use Rattle.slot_theory.proofs.trial.first_wrong.Given as goal

abbrev pub invariant-loop-i : goal.invariant-loop-i
invariant-loop-i l = (k : ℕ) (d : ℕ × Bool) → k < l.i → slot_of (test_at l.tests (get_or l.answers k d).0) ≡ l.slot → AnswersTest l.value (test_at l.tests (get_or l.answers k d).0) (get_or l.answers k d).1

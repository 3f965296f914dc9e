use Rattle.std.proofs.Common.{◌≡◌, ◌<◌, ℕ, Bool, Any, get_or}
use Rattle.slot_theory.specs.Slots.{slot_of, test_at}
use Rattle.clause_search.proofs.slots.have_all_slots.Given as goal

abbrev pub invariant-answers : goal.invariant-answers
invariant-answers l = (k : ℕ) (d : ℕ × Bool) → k < l.i → Any (λ p. p.0 ≡ slot_of (test_at l.asked.query.now.tests (get_or l.path k d).0)) l.values

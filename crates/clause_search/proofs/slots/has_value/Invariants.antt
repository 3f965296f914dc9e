use Rattle.std.proofs.Common.{◌≢◌, ◌<◌, ℕ, get_or}
use Rattle.policy_model.specs.declared.test.Slot.{Slot}
use Rattle.slot_theory.specs.declared.outcome.SlotValue.{SlotValue}
use Rattle.clause_search.proofs.slots.has_value.Given as goal

abbrev pub invariant-values : goal.invariant-values
invariant-values l = (k : ℕ) (d : Slot × SlotValue) → k < l.value-index → (get_or l.value-items k d).0 ≢ l.slot

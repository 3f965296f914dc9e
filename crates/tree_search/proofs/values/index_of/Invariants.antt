use Rattle.std.proofs.Common.{◌≢◌, ◌<◌, ℕ, get_or}
use Rattle.policy_model.specs.declared.test.Slot.{Slot}
use Rattle.slot_theory.specs.declared.outcome.SlotValue.{SlotValue}
use Rattle.tree_search.proofs.values.index_of.Given as goal

abbrev pub invariant-slots : goal.invariant-slots
invariant-slots l = (k : ℕ) (d : Slot × SlotValue) → k < l.i → (get_or l.values k d).0 ≢ l.slot

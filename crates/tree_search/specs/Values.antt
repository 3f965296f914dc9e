-- The values of slots that a search carries along.
use Rattle.std.specs.Prelude.{◌≡◌, ◌≢◌, ℕ, List, Option, Some, None, All, slice_get}
use Rattle.policy_model.specs.declared.test.Slot.{Slot}
use Rattle.slot_theory.specs.declared.outcome.SlotValue.{SlotValue}

-- the value at the index is the slot's
pub record IsHeldAt (s : Slot) (values : List (Slot × SlotValue)) (i : ℕ) : Type 0 where
  pub value : SlotValue
  pub there : slice_get values i ≡ Some (s, value)

-- the index of the slot's value, or none where the slot has none
abbrev pub IsIndexOf : Slot → List (Slot × SlotValue) → Option ℕ → Type 0
IsIndexOf s values None = All (λ p. p.0 ≢ s) values
IsIndexOf s values (Some i) = IsHeldAt s values i

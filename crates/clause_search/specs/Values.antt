-- Values of the slots that answers of tests are on.
use Rattle.std.specs.Prelude.{◌≡◌, ◌≢◌, List, All, AllPairs, Any}
use Rattle.formula_tree.specs.Answers.{Answers}
use Rattle.policy_model.specs.declared.test.Slot.{Slot}
use Rattle.slot_theory.specs.declared.outcome.SlotValue.{SlotValue}
use Rattle.slot_theory.specs.Cores.{HasTest}
use Rattle.slot_theory.specs.Slots.{IsSlotValue}
use Rattle.clause_learning.specs.declared.asked.Asked.{Asked}

abbrev pub SlotPairs : Type 0
SlotPairs = List (Slot × SlotValue)

-- the values are for slots of tests of the path, at most one for each, and answer the slot's tests as the path does
pub record AreFoundValues (a : Asked) (path : Answers) (values : SlotPairs) : Type 0 where
  pub each : All (λ p. IsSlotValue a.schema.now a.query.now.tests path p.0 p.1) values
  pub needed : All (λ p. HasTest a.query.now.tests path p.0) values
  pub once : AllPairs (λ p q. p.0 ≢ q.0) values

-- each slot of a test of the path has a value
abbrev pub HaveAllSlots : Asked → Answers → SlotPairs → Type 0
HaveAllSlots a path values = (s : Slot) → HasTest a.query.now.tests path s → Any (λ p. p.0 ≡ s) values

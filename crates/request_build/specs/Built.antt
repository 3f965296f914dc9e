-- Requests joined from one value for each slot.
use Rattle.std.specs.Prelude.{◌≡◌, ◌≢◌, List, All, AllPairs, Any}
use Rattle.formula_tree.specs.Answers.{Answers}
use Rattle.policy_model.specs.declared.request.Request.{Request}
use Rattle.policy_model.specs.declared.schema.Schema.{Schema}
use Rattle.policy_model.specs.declared.test.Slot.{Slot}
use Rattle.policy_model.specs.declared.test.Slot.TheVariants as slot
use Rattle.policy_model.specs.declared.test.Test.{Test}
use Rattle.policy_model.specs.Conditions.{values_at}
use Rattle.slot_theory.specs.declared.outcome.SlotValue.{SlotValue}
use Rattle.slot_theory.specs.Slots.{IsSlotValue}
use Rattle.slot_theory.specs.Cores.{HasTest}
use Rattle.slot_theory.specs.Unasked.{stated_values}

-- one value for each slot of a test of the path, and none for another slot
pub record AreSlotValues (schema : Schema) (tests : List Test) (path : Answers) (values : List (Slot × SlotValue)) : Type 0 where
  pub each : All (λ p. IsSlotValue schema tests path p.0 p.1) values
  pub needed : All (λ p. HasTest tests path p.0) values
  pub there : (s : Slot) → HasTest tests path s → Any (λ p. p.0 ≡ s) values
  pub once : AllPairs (λ p q. p.0 ≢ q.0) values

-- each key of the schema that the path asks nothing about has the stated values: none, unless it is required
abbrev pub KeysAreStated : Schema → List Test → Answers → Request → Type 0
KeysAreStated schema tests path r =
    All (λ entry. ¬ HasTest tests path (slot.Key entry.0) → values_at r entry.0 ≡ stated_values entry.1) schema.keys

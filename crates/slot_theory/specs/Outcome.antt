-- What a search for a slot's value may answer.
use Rattle.std.specs.Prelude.{ℕ, List}
use Rattle.formula_tree.specs.Answers.{Answers}
use Rattle.wildcard_lang.specs.Places.{ShowWider}
use Rattle.policy_model.specs.declared.schema.Schema.{Schema}
use Rattle.policy_model.specs.declared.test.Slot.{Slot}
use Rattle.policy_model.specs.declared.test.Test.{Test}
use Rattle.slot_theory.specs.declared.outcome.Possible.{Possible}
use Rattle.slot_theory.specs.declared.outcome.Possible.TheVariants.{Found, Conflict, TooMany}
use Rattle.slot_theory.specs.Slots.{IsSlotValue, patterns_at}
use Rattle.slot_theory.specs.Cores.{IsConflict}

-- a value of the slot at the path; or a core of the slot with a proof that no value answers it as the path does;
-- or one more text than the number of states, with different product states of the slot's patterns
abbrev pub IsSlotOutcome : Schema → List Test → Answers → Slot → ℕ → Possible → Type 0
IsSlotOutcome schema tests path s states (Found v) = IsSlotValue schema tests path s v
IsSlotOutcome schema tests path s states (Conflict core proof) = IsConflict schema tests path s core proof
IsSlotOutcome schema tests path s states (TooMany texts) = ShowWider (patterns_at schema tests path s) states texts

-- What is decided of a path of tests of one slot.
use Rattle.std.specs.Prelude.{◌≡◌, ℕ, List, [], ◌∷◌, true, false, Option, Some, None}
use Rattle.formula_tree.specs.Answers.{Answers}
use Rattle.wildcard_lang.specs.Places.{ShowWider}
use Rattle.policy_model.specs.declared.schema.Schema.{Schema}
use Rattle.policy_model.specs.declared.test.Slot.{Slot}
use Rattle.policy_model.specs.declared.cond.Cond.{Cond}
use Rattle.policy_model.specs.declared.test.Test.{Test}
use Rattle.policy_model.specs.declared.test.Test.TheVariants.{SomeMeets}
use Rattle.slot_theory.specs.Possible.{IsPossible}
use Rattle.policy_model.specs.Soundness.{TestSuits}
use Rattle.slot_theory.specs.declared.outcome.SlotValue.{SlotValue}
use Rattle.slot_theory.specs.Slots.{ValueMeets, patterns_at, slot_of}
use Rattle.strata.specs.declared.inclusion.Within.{Within}
use Rattle.strata.specs.declared.inclusion.Within.TheVariants.{Yes, No, TooMany}

-- whether some valid request answers the path; or one more text than the number of states, with different product states of the
-- slot's patterns there
abbrev pub DecidesPossible : Schema → List Test → Answers → Slot → ℕ → Within → Type 0
DecidesPossible schema tests path s states Yes = IsPossible schema tests path
DecidesPossible schema tests path s states No = ¬ IsPossible schema tests path
DecidesPossible schema tests path s states (TooMany texts) = ShowWider (patterns_at schema tests path s) states texts

-- the answer to the contrary question
abbrev pub opposite_answer : Within → Within
opposite_answer Yes = No
opposite_answer No = Yes
opposite_answer (TooMany texts) = TooMany texts

-- whether some valid request passes the one test, where one is given, and not the other; or texts with too many product states
abbrev pub DecidesEscape : Schema → Slot → ℕ → Option Test → Test → Within → Type 0
DecidesEscape schema s states None other w = DecidesPossible schema (other ∷ []) ((0, false) ∷ []) s states w
DecidesEscape schema s states (Some one) other w =
    DecidesPossible schema (one ∷ other ∷ []) ((0, true) ∷ (1, false) ∷ []) s states w

-- as a value of whichever key it meets the condition
abbrev pub MeetsOnKeys : Cond → SlotValue → Type 0
MeetsOnKeys c v = (key : List ℕ) → ValueMeets v (SomeMeets key c)

-- the test is on the slot, and the schema can answer for it
pub record IsTestOnSlot (schema : Schema) (s : Slot) (t : Test) : Type 0 where
  pub suits : TestSuits schema t
  pub on : slot_of t ≡ s

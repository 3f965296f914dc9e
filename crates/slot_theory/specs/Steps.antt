-- The steps of a search for a value: a value for a core is tried on all answered tests of the slot.
use Rattle.std.specs.Prelude.{◌≡◌, ℕ, List, Contains, Bool, false, unwrap_or}
use Rattle.wildcard_lang.specs.Places.{ShowWider}
use Rattle.formula_tree.specs.Answers.{Answers, answer_of}
use Rattle.policy_model.specs.declared.principal.PrincipalKind.{PrincipalKind}
use Rattle.policy_model.specs.declared.test.Slot.{Slot}
use Rattle.policy_model.specs.declared.test.Test.{Test}
use Rattle.slot_theory.specs.declared.steps.Attempt.{Attempt}
use Rattle.slot_theory.specs.declared.steps.Attempt.TheVariants as attempt
use Rattle.slot_theory.specs.declared.steps.KindAttempt.{KindAttempt}
use Rattle.slot_theory.specs.declared.steps.KindAttempt.TheVariants as kind_attempt
use Rattle.slot_theory.specs.declared.outcome.SlotValue.{SlotValue}
use Rattle.slot_theory.specs.declared.question.Question.{Question}
use Rattle.slot_theory.specs.Slots.{AnswersSlot, AnswersTest, IsSlotValue, patterns_at, slot_of, test_at}
use Rattle.slot_theory.specs.Cores.{IsAnsweredOn}
use Rattle.slot_theory.specs.Question.{IsAnsweredOf, KindShowsOf, ShowsOf}

-- the test is on the slot and the value answers it otherwise
abbrev pub IsOtherwise : Slot → SlotValue → Test → Bool → Type 0
IsOtherwise s v t holds = (slot_of t ≡ s) × (AnswersTest v t holds → ⊥)

-- the value answers the test as the path does
abbrev pub IsRight : List Test → Answers → SlotValue → ℕ → Type 0
IsRight tests path v n = AnswersTest v (test_at tests n) (unwrap_or (answer_of path n) false)

-- an answered test of the slot that the value answers otherwise
pub record IsWrong (tests : List Test) (path : Answers) (s : Slot) (v : SlotValue) (n : ℕ) : Type 0 where
  pub on : IsAnsweredOn tests path s n
  pub wrong : IsRight tests path v n → ⊥

-- what a value comes to that is tried on all answered tests of the slot
abbrev pub IsTried : Question → SlotValue → Attempt → Type 0
IsTried q v (attempt.Empty proof) = ⊥
IsTried q v (attempt.Full texts) = ⊥
IsTried q v (attempt.Right w) = (w ≡ v) × AnswersSlot q.tests.now q.path.now q.slot.now v
IsTried q v (attempt.Wrong n) = IsWrong q.tests.now q.path.now q.slot.now v n

-- what an attempt may answer
abbrev pub IsAttempt : Question → List ℕ → Attempt → Type 0
IsAttempt q core (attempt.Empty proof) = ShowsOf q core proof
IsAttempt q core (attempt.Full texts) = ShowWider (patterns_at q.schema.now q.tests.now q.path.now q.slot.now) q.states texts
IsAttempt q core (attempt.Right v) = IsSlotValue q.schema.now q.tests.now q.path.now q.slot.now v
IsAttempt q core (attempt.Wrong n) = IsAnsweredOf q n × (Contains core n → ⊥)

-- what an attempt at the principals of one kind may answer
abbrev pub IsKindAttempt : Question → List ℕ → PrincipalKind → KindAttempt → Type 0
IsKindAttempt q core k (kind_attempt.Empty proof) = KindShowsOf q core k proof
IsKindAttempt q core k (kind_attempt.Whole made) = IsAttempt q core made

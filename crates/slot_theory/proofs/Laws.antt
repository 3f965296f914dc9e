-- The lemmas on slots, their tests and accepted cores that crates above cite.
use Rattle.std.proofs.Common.{◌≡◌, ℕ, ◌<◌, List, length, get_or, slice_get, true, Option, Some, All}
use Rattle.wildcard_lang.specs.declared.piece.Piece.{Piece}
use Rattle.formula_tree.specs.Answers.{Answers}
use Rattle.policy_model.specs.declared.principal.PrincipalKind.{PrincipalKind}
use Rattle.policy_model.specs.declared.request.Request.{Request}
use Rattle.policy_model.specs.declared.schema.KeyRule.{KeyRule}
use Rattle.policy_model.specs.declared.schema.Schema.{Schema}
use Rattle.policy_model.specs.declared.test.Slot.{Slot}
use Rattle.policy_model.specs.declared.test.Test.{Test}
use Rattle.policy_model.specs.Requests.{IsValueOf, IsWord}
use Rattle.policy_model.specs.Soundness.{RuleIsSound, TestSuits, WordShapeIsSound}
use Rattle.set_operators.specs.Asks.{AreValuesOf}
use Rattle.slot_theory.specs.declared.outcome.SlotProof.{SlotProof}
use Rattle.slot_theory.specs.Cores.{Accepts}
use Rattle.slot_theory.specs.Entries.{is_kind}
use Rattle.slot_theory.specs.Acceptance.{AcceptedCoresAreImpossible, AcceptsByTheCoreAlone}
use Rattle.slot_theory.specs.Possible.{AnswersCore, AnswersPath, IsPossible}
use Rattle.slot_theory.specs.Slots.{SlotIsIn, is_on, slot_of, test_at}
use Rattle.slot_theory.specs.Unasked.{stated_key, stated_values, stated_word}
use Rattle.slot_theory.proofs.Alike as alikes
use Rattle.slot_theory.proofs.Impossible as impossibles
use Rattle.slot_theory.proofs.Naming as names
use Rattle.slot_theory.proofs.Sampling as samples
use Rattle.slot_theory.proofs.Stating as stated
use Rattle.slot_theory.proofs.Wording as tests

-- a test that a list has at a number is the test of that number
pub at-test : (tests : List Test) (n : ℕ) (t : Test) → slice_get tests n ≡ Some t → test_at tests n ≡ t
at-test = tests.at-test

-- and so is one that is read within the list
pub own-test : (tests : List Test) (n : ℕ) (t : Test) → n < length tests → t ≡ get_or tests n t → t ≡ test_at tests n
own-test = tests.own-test

-- a test that is on a slot has it as its slot
pub on-slot : (s : Slot) (t : Test) → is_on s t ≡ true → slot_of t ≡ s
on-slot = tests.on-slot

-- and the other way
pub slot-on : (s : Slot) (t : Test) → slot_of t ≡ s → is_on s t ≡ true
slot-on = tests.slot-on

-- the slot of a test that suits the schema is the principal, the action, the resource or one of the schema's keys
pub slot-in : (schema : Schema) (t : Test) → TestSuits schema t → SlotIsIn schema (slot_of t)
slot-in = tests.slot-in

-- the stated word is a word of its shape
pub stated-is-word : (shape : Option (List Piece)) → WordShapeIsSound shape → IsWord shape (stated_word shape)
stated-is-word = samples.stated-is-word

-- the stated value of a key is one that its rule permits
pub key-permitted : (rule : KeyRule) → RuleIsSound rule → IsValueOf rule (stated_key rule)
key-permitted = stated.key-permitted

-- and its stated values are some that a valid request may have
pub values-permitted : (rule : KeyRule) → RuleIsSound rule → AreValuesOf rule (stated_values rule)
values-permitted = stated.values-permitted

-- the computed test of kinds says that they are the same
pub same-kind : (j k : PrincipalKind) → is_kind j k ≡ true → j ≡ k
same-kind = names.same-kind

-- and the other way
pub kind-same : (j k : PrincipalKind) → j ≡ k → is_kind j k ≡ true
kind-same = names.kind-same

-- no valid request answers the tests of an accepted core as the path does
pub core_impossible : AcceptedCoresAreImpossible
core_impossible = impossibles.core_impossible

-- a request that answers a path answers each core under it
pub path-core : (tests : List Test) (path : Answers) (core : List ℕ) (r : Request) → AnswersPath tests path r → AnswersCore tests path core r
path-core = impossibles.path-core

-- no valid request answers a path under which a core is accepted
pub impossible : (schema : Schema) (tests : List Test) (path : Answers) (core : List ℕ) (proof : SlotProof) → All (TestSuits schema) tests → Accepts schema tests path core proof → IsPossible schema tests path → ⊥
impossible = impossibles.impossible

-- a core that is accepted under one path is accepted under each that answers its tests alike
pub accepts_alike : AcceptsByTheCoreAlone
accepts_alike = alikes.accepts_alike

-- What the definitions say of the question which value a slot has at a path.
use Rattle.std.specs.Prelude.{◌≡◌, ◌<◌, ◌≤◌, ℕ, List, [], ◌∷◌, length, Option, None, Some, All}
use Rattle.text_table.specs.Table.{item_at}
use Rattle.pattern_automata.specs.declared.outcome.Product.{Product}
use Rattle.pattern_automata.specs.Answer.{IsProduct}
use Rattle.policy_model.specs.declared.principal.PrincipalKind.{PrincipalKind}
use Rattle.policy_model.specs.declared.schema.KeyRule.{KeyRule}
use Rattle.policy_model.specs.declared.schema.Schema.{Schema}
use Rattle.policy_model.specs.declared.test.Slot.{Slot}
use Rattle.policy_model.specs.declared.test.Slot.TheVariants as slot
use Rattle.policy_model.specs.declared.value.Value.{Value}
use Rattle.wildcard_lang.specs.declared.piece.Piece.{Piece}
use Rattle.slot_theory.specs.declared.outcome.KindProof.{KindProof}
use Rattle.slot_theory.specs.declared.outcome.Possible.{Possible}
use Rattle.slot_theory.specs.declared.outcome.SlotProof.{SlotProof}
use Rattle.slot_theory.specs.declared.question.Question.{Question}
use Rattle.slot_theory.specs.declared.outcome.SlotValue.TheVariants.{Values}
use Rattle.slot_theory.specs.Slots.{HasPattern, Permits, shape_at}
use Rattle.slot_theory.specs.Wants.{wanted_clauses, wanted_patterns}
use Rattle.set_operators.specs.Asks.{Asks}
use Rattle.slot_theory.specs.Cores.{IsAnsweredOn, IsConflict, IsCore, KeyShows, KindShows, PrincipalShows, Shows, WordShows, asks_of}
use Rattle.slot_theory.specs.Outcome.{IsSlotOutcome}

-- the path answers the test, which is on the slot
abbrev pub IsAnsweredOf : Question → ℕ → Type 0
IsAnsweredOf q n = IsAnsweredOn q.tests.now q.path.now q.slot.now n

abbrev pub IsCoreOf : Question → List ℕ → Type 0
IsCoreOf q core = IsCore q.tests.now q.path.now core q.slot.now

abbrev pub KindShowsOf : Question → List ℕ → PrincipalKind → KindProof → Type 0
KindShowsOf q core k proof = KindShows q.schema.now q.tests.now q.path.now core k proof

abbrev pub PrincipalShowsOf : Question → List ℕ → SlotProof → Type 0
PrincipalShowsOf q core proof = PrincipalShows q.schema.now q.tests.now q.path.now core proof

abbrev pub WordShowsOf : Question → List ℕ → SlotProof → Type 0
WordShowsOf q core proof = WordShows (shape_at q.schema.now q.slot.now) q.tests.now q.path.now core proof

abbrev pub ShowsOf : Question → List ℕ → SlotProof → Type 0
ShowsOf q core proof = Shows q.schema.now q.tests.now q.path.now core q.slot.now proof

abbrev pub IsConflictOf : Question → List ℕ → SlotProof → Type 0
IsConflictOf q core proof = IsConflict q.schema.now q.tests.now q.path.now q.slot.now core proof

abbrev pub IsOutcomeOf : Question → Possible → Type 0
IsOutcomeOf q found = IsSlotOutcome q.schema.now q.tests.now q.path.now q.slot.now q.states found

-- tests that have patterns, not more than there are
pub record AreWanted (q : Question) (numbers : List ℕ) : Type 0 where
  pub count : length numbers ≤ length q.tests.now
  pub within : All (λ n. n < length q.tests.now) numbers
  pub patterns : All (HasPattern q.tests.now) numbers

-- what a product may answer of a text that the tests of these numbers want
abbrev pub IsProductFor : Question → List ℕ → Option (List Piece) → Product → Type 0
IsProductFor q numbers shape product =
    IsProduct (wanted_patterns q.tests.now numbers shape) (wanted_clauses q.path.now numbers shape 0) q.states product

-- the rule of the key that is the slot, where it is one of the schema's
abbrev pub slot_rule : Schema → Slot → Option KeyRule
slot_rule schema slot.Principal = None
slot_rule schema slot.Action = None
slot_rule schema slot.Resource = None
slot_rule schema (slot.Key name) = item_at name schema.keys

-- the question is on the values of a key of this rule
pub record IsOnKey (q : Question) (rule : KeyRule) : Type 0 where
  pub key : List ℕ
  pub slot : q.slot.now ≡ slot.Key key
  pub there : item_at key q.schema.now.keys ≡ Some rule

-- what the core asks of the key's values
abbrev pub core_asks : Question → List ℕ → Asks
core_asks q core = asks_of q.tests.now q.path.now core

abbrev pub KeyShowsOf : Question → KeyRule → List ℕ → SlotProof → Type 0
KeyShowsOf q rule core proof = KeyShows rule (core_asks q core) core proof

-- the schema permits the value alone in the slot
abbrev pub PermitsOne : Question → Value → Type 0
PermitsOne q v = Permits q.schema.now q.slot.now (Values (v ∷ []))

-- Proofs that tests of one slot can't be answered as a path answers them.
use Rattle.std.specs.Prelude.{◌≡◌, ◌≢◌, ◌<◌, ◌≤◌, ℕ, List, [], length, map, slice_get, true, false, Option, Some}
use Rattle.std.specs.Prelude.{IsSome, IsSomeAnd, All, Any, MatchOption, unwrap_or}
use Rattle.std.specs.List.{filter, insert}
use Rattle.std.specs.Option.{is_none}
use Rattle.text_table.specs.Table.{item_at}
use Rattle.wildcard_lang.specs.declared.piece.Piece.{Piece}
use Rattle.formula_tree.specs.Answers.{Answers, answer_of}
use Rattle.pattern_automata.specs.Closed.{rises_from}
use Rattle.policy_model.specs.declared.principal.PrincipalKind.{PrincipalKind}
use Rattle.policy_model.specs.declared.principal.PrincipalKind.TheVariants.{Aws, Service, Federated, CanonicalUser}
use Rattle.policy_model.specs.declared.schema.KeyRule.{KeyRule}
use Rattle.policy_model.specs.declared.schema.Schema.{Schema}
use Rattle.policy_model.specs.declared.test.Slot.{Slot}
use Rattle.policy_model.specs.declared.test.Slot.TheVariants as slot
use Rattle.policy_model.specs.declared.test.Test.{Test}
use Rattle.policy_model.specs.Requests.{shape_of}
use Rattle.set_operators.specs.Asks.{Asks}
use Rattle.set_operators.specs.Shown.{ShowsAbsent, ShowsMember, ShowsPoints, ShowsRequired, ShowsSomeMember, ShowsTogether}
use Rattle.slot_theory.specs.declared.outcome.KindProof.{KindProof}
use Rattle.slot_theory.specs.declared.outcome.KindProof.TheVariants.{Never, Closed}
use Rattle.slot_theory.specs.declared.outcome.SlotProof.{SlotProof}
use Rattle.slot_theory.specs.declared.outcome.SlotProof.TheVariants.{Points, Absent, Required, Word, Kinds, Member, SomeMember}
use Rattle.slot_theory.specs.Slots.{ask_of, fixed_at, slot_of, test_at}
use Rattle.slot_theory.specs.Wants.{IsClosedFor}

-- a core: at least one test, the numbers strictly rise, the path answers each, and all are tests of the slot
pub record IsCore (tests : List Test) (path : Answers) (core : List ℕ) (s : Slot) : Type 0 where
  pub nonempty : core ≢ []
  pub rises : rises_from 0 core ≡ true
  pub within : All (λ n. n < length tests) core
  pub answered : All (λ n. IsSome (answer_of path n)) core
  pub on_slot : All (λ n. slot_of (test_at tests n) ≡ s) core

-- the path answers the test, which is on the slot
pub record IsAnsweredOn (tests : List Test) (path : Answers) (s : Slot) (n : ℕ) : Type 0 where
  pub answered : IsSome (answer_of path n)
  pub on_slot : slot_of (test_at tests n) ≡ s

-- the path answers some test of the slot
pub record HasTest (tests : List Test) (path : Answers) (s : Slot) : Type 0 where
  pub number : ℕ
  pub is : IsAnsweredOn tests path s number

-- the core with one more test, where its number belongs
pub record IsWith (core : List ℕ) (n : ℕ) (more : List ℕ) : Type 0 where
  pub index : ℕ
  pub within : index ≤ length core
  pub is : more ≡ insert core index n
  pub rises : rises_from 0 more ≡ true

-- the tests among these that have no fixed answer for the kind
abbrev pub open_tests : List Test → PrincipalKind → List ℕ → List ℕ
open_tests tests k numbers = filter (λ n. is_none (fixed_at k (test_at tests n))) numbers

-- the test has a fixed answer for the kind, and the path answers it otherwise
abbrev pub IsContradicted : List Test → Answers → PrincipalKind → ℕ → Type 0
IsContradicted tests path k n = IsSomeAnd (fixed_at k (test_at tests n)) (λ b. answer_of path n ≢ Some b)

-- the proof shows that no principal of the kind answers the core as the path does: by a fixed answer of one of its tests, or by
-- a closed set for what its tests without one want of an id
abbrev pub KindShows : Schema → List Test → Answers → List ℕ → PrincipalKind → KindProof → Type 0
KindShows schema tests path core k Never = Any (IsContradicted tests path k) core
KindShows schema tests path core k (Closed closed) =
    IsClosedFor tests path (open_tests tests k core) (shape_of schema.shapes k) closed

-- what the tests of a core ask of a key's values, each with the path's answer, in the order of the core
abbrev pub asks_of : List Test → Answers → List ℕ → Asks
asks_of tests path core = map (λ n. (ask_of (test_at tests n), unwrap_or (answer_of path n) false)) core

-- the proof shows that no word of the shape answers the core as the path does: by a closed set
abbrev pub WordShows : Option (List Piece) → List Test → Answers → List ℕ → SlotProof → Type 0
WordShows shape tests path core (Word set) = IsClosedFor tests path core shape set
WordShows shape tests path core Points = ⊥
WordShows shape tests path core Absent = ⊥
WordShows shape tests path core Required = ⊥
WordShows shape tests path core (Kinds aws service federated canonical_user) = ⊥
WordShows shape tests path core (Member n set) = ⊥
WordShows shape tests path core (SomeMember set) = ⊥

-- the proof shows that no principal does: kind by kind
abbrev pub PrincipalShows : Schema → List Test → Answers → List ℕ → SlotProof → Type 0
PrincipalShows schema tests path core (Kinds aws service federated canonical_user) =
    KindShows schema tests path core Aws aws × KindShows schema tests path core Service service ×
    KindShows schema tests path core Federated federated × KindShows schema tests path core CanonicalUser canonical_user
PrincipalShows schema tests path core Points = ⊥
PrincipalShows schema tests path core Absent = ⊥
PrincipalShows schema tests path core Required = ⊥
PrincipalShows schema tests path core (Word set) = ⊥
PrincipalShows schema tests path core (Member n set) = ⊥
PrincipalShows schema tests path core (SomeMember set) = ⊥

-- test n of the core, answered yes, is the one whose member the set excludes
abbrev pub MemberShows : KeyRule → Asks → List ℕ → ℕ → List (List (List ℕ)) → Type 0
MemberShows rule asks core n set = (k : ℕ) × (slice_get core k ≡ Some n) × ShowsMember rule asks k set

-- the proof shows that no values of a key of the rule do, by what the core asks of them
abbrev pub KeyShows : KeyRule → Asks → List ℕ → SlotProof → Type 0
KeyShows rule asks core Points = ShowsPoints rule asks
KeyShows rule asks core Absent = ShowsAbsent asks
KeyShows rule asks core Required = ShowsRequired rule asks
KeyShows rule asks core (Word set) = ShowsTogether rule asks set
KeyShows rule asks core (Kinds aws service federated canonical_user) = ⊥
KeyShows rule asks core (Member n set) = MemberShows rule asks core n set
KeyShows rule asks core (SomeMember set) = ShowsSomeMember rule asks set

-- the proof shows that no value of the slot answers the core as the path does
abbrev pub Shows : Schema → List Test → Answers → List ℕ → Slot → SlotProof → Type 0
Shows schema tests path core slot.Principal proof = PrincipalShows schema tests path core proof
Shows schema tests path core slot.Action proof = WordShows schema.shapes.action tests path core proof
Shows schema tests path core slot.Resource proof = WordShows schema.shapes.resource tests path core proof
Shows schema tests path core (slot.Key name) proof =
    MatchOption (item_at name schema.keys) ⊥ (λ rule. KeyShows rule (asks_of tests path core) core proof)

-- the core is one of the slot, and the proof shows that no value of the slot answers it as the path does
pub record IsConflict (schema : Schema) (tests : List Test) (path : Answers) (s : Slot) (core : List ℕ) (proof : SlotProof)
    : Type 0 where
  pub core_is : IsCore tests path core s
  pub shows : Shows schema tests path core s proof

-- the core and its proof are accepted under the path: they are a conflict of some slot
pub record Accepts (schema : Schema) (tests : List Test) (path : Answers) (core : List ℕ) (proof : SlotProof) : Type 0 where
  pub slot : Slot
  pub conflict : IsConflict schema tests path slot core proof

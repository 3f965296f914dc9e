-- What the proofs of accepted cores need to be read again.
use Rattle.std.proofs.Common.{◌≡◌, ℕ, zero, suc, ◌<◌, ◌≤◌, true, List, [], ◌∷◌, length, Some, None, Option, All, arith}
use Rattle.std.specs.Prelude.{⊤, MatchOption, slice_get}
use Rattle.std.proofs.lemmas.List.Elements.{All-head, All-tail, All-weaker}
use Rattle.text_table.specs.Table.{item_at}
use Rattle.wildcard_lang.specs.declared.piece.Piece.{Piece}
use Rattle.formula_tree.specs.Answers.{Answers}
use Rattle.pattern_automata.specs.declared.wants.Literal.{Literal}
use Rattle.pattern_automata.specs.Closed.{IsClosed, IsShaped, all_rise}
use Rattle.policy_model.specs.declared.principal.PrincipalKind.{PrincipalKind}
use Rattle.policy_model.specs.declared.principal.PrincipalKind.TheVariants.{Aws, Service, Federated, CanonicalUser}
use Rattle.policy_model.specs.declared.schema.KeyRule.{KeyRule}
use Rattle.policy_model.specs.declared.schema.Schema.{Schema}
use Rattle.policy_model.specs.declared.test.Slot.{Slot}
use Rattle.policy_model.specs.declared.test.Slot.TheVariants as slot
use Rattle.policy_model.specs.declared.test.Test.{Test}
use Rattle.set_operators.specs.Asks.{Asks}
use Rattle.slot_theory.specs.Cores.{Accepts, KeyShows, KindShows, PrincipalShows, Shows, WordShows, asks_of}
use Rattle.slot_theory.specs.declared.outcome.KindProof.{KindProof}
use Rattle.slot_theory.specs.declared.outcome.KindProof.TheVariants.{Never, Closed}
use Rattle.slot_theory.specs.declared.outcome.SlotProof.{SlotProof}
use Rattle.slot_theory.specs.declared.outcome.SlotProof.TheVariants.{Points, Absent, Required, Word, Kinds, Member, SomeMember}

-- a closed set has a product state, and the places of each rise
pub record IsSetFit (set : List (List (List ℕ))) : Type 0 where
  pub nonempty : 1 ≤ length set
  pub rise : All (λ s. all_rise s ≡ true) set

abbrev pub IsKindFit : KindProof → Type 0
IsKindFit Never = ⊤
IsKindFit (Closed set) = IsSetFit set

-- so do those of a proof for a slot, and a member's test is one of so many
abbrev pub IsSlotFit : ℕ → SlotProof → Type 0
IsSlotFit tests Points = ⊤
IsSlotFit tests Absent = ⊤
IsSlotFit tests Required = ⊤
IsSlotFit tests (Word set) = IsSetFit set
IsSlotFit tests (Kinds aws service federated canonical_user) = IsKindFit aws × IsKindFit service × IsKindFit federated × IsKindFit canonical_user
IsSlotFit tests (Member n set) = (n < tests) × IsSetFit set
IsSlotFit tests (SomeMember set) = IsSetFit set

closed-fit : (patterns : List (List Piece)) (clauses : List (List Literal)) (set : List (List (List ℕ))) → IsClosed patterns clauses set → IsSetFit set
closed-fit patterns clauses set closed =
    let start = closed.starts in
    let there : start.0 < length set = start.1 in
    record {
      nonempty = omega (arith, there);
      rise = All-weaker (IsShaped patterns) (λ s. all_rise s ≡ true) (λ s shaped. shaped.1) set closed.shaped;
    }

kind-fit : (schema : Schema) (tests : List Test) (path : Answers) (core : List ℕ) (k : PrincipalKind) (proof : KindProof) → KindShows schema tests path core k proof → IsKindFit proof
kind-fit schema tests path core k Never shows = tt
kind-fit schema tests path core k (Closed set) shows = closed-fit _ _ set shows

word-fit : (shape : Option (List Piece)) (tests : List Test) (path : Answers) (core : List ℕ) (count : ℕ) (proof : SlotProof) → WordShows shape tests path core proof → IsSlotFit count proof
word-fit shape tests path core count (Word set) shows = closed-fit _ _ set shows
word-fit shape tests path core count Points shows = absurd shows
word-fit shape tests path core count Absent shows = absurd shows
word-fit shape tests path core count Required shows = absurd shows
word-fit shape tests path core count (Kinds aws service federated canonical_user) shows = absurd shows
word-fit shape tests path core count (Member n set) shows = absurd shows
word-fit shape tests path core count (SomeMember set) shows = absurd shows

principal-fit : (schema : Schema) (tests : List Test) (path : Answers) (core : List ℕ) (count : ℕ) (proof : SlotProof) → PrincipalShows schema tests path core proof → IsSlotFit count proof
principal-fit schema tests path core count (Kinds aws service federated canonical_user) shows = (
  kind-fit schema tests path core Aws aws shows.0,
  kind-fit schema tests path core Service service shows.1,
  kind-fit schema tests path core Federated federated shows.2,
  kind-fit schema tests path core CanonicalUser canonical_user shows.3,
)
principal-fit schema tests path core count Points shows = absurd shows
principal-fit schema tests path core count Absent shows = absurd shows
principal-fit schema tests path core count Required shows = absurd shows
principal-fit schema tests path core count (Word set) shows = absurd shows
principal-fit schema tests path core count (Member n set) shows = absurd shows
principal-fit schema tests path core count (SomeMember set) shows = absurd shows

-- a number that stands in a list of numbers in range
got-within : (count : ℕ) (core : List ℕ) (k n : ℕ) → All (λ m. m < count) core → slice_get core k ≡ Some n → n < count
got-within count [] k n within got = absurd (cc)
got-within count (m ∷ core) zero n within got = let same : m ≡ n = cc in omega (arith, same, All-head (λ i. i < count) m core within)
got-within count (m ∷ core) (suc k) n within got = got-within count core k n (All-tail (λ i. i < count) m core within) got

key-fit : (rule : KeyRule) (asks : Asks) (core : List ℕ) (count : ℕ) (proof : SlotProof) → All (λ m. m < count) core → KeyShows rule asks core proof → IsSlotFit count proof
key-fit rule asks core count Points within shows = tt
key-fit rule asks core count Absent within shows = tt
key-fit rule asks core count Required within shows = tt
key-fit rule asks core count (Word set) within shows = closed-fit _ _ set shows.closed
key-fit rule asks core count (Kinds aws service federated canonical_user) within shows = absurd shows
key-fit rule asks core count (Member n set) within shows = (got-within count core shows.0 n within shows.1, closed-fit _ _ set shows.2.closed)
key-fit rule asks core count (SomeMember set) within shows = closed-fit _ _ set shows.closed

ruled-fit : (rule : Option KeyRule) (asks : Asks) (core : List ℕ) (count : ℕ) (proof : SlotProof) → All (λ m. m < count) core → MatchOption rule ⊥ (λ r. KeyShows r asks core proof) → IsSlotFit count proof
ruled-fit None asks core count proof within shows = absurd shows
ruled-fit (Some rule) asks core count proof within shows = key-fit rule asks core count proof within shows

shown-fit : (schema : Schema) (tests : List Test) (path : Answers) (core : List ℕ) (s : Slot) (count : ℕ) (proof : SlotProof) → All (λ m. m < count) core → Shows schema tests path core s proof → IsSlotFit count proof
shown-fit schema tests path core slot.Principal count proof within shows = principal-fit schema tests path core count proof shows
shown-fit schema tests path core slot.Action count proof within shows = word-fit schema.shapes.action tests path core count proof shows
shown-fit schema tests path core slot.Resource count proof within shows = word-fit schema.shapes.resource tests path core count proof shows
shown-fit schema tests path core (slot.Key name) count proof within shows = ruled-fit (item_at name schema.keys) (asks_of tests path core) core count proof within shows

pub accepted-fit : (schema : Schema) (tests : List Test) (path : Answers) (core : List ℕ) (proof : SlotProof) → Accepts schema tests path core proof → IsSlotFit (length tests) proof
accepted-fit schema tests path core proof accepts =
    shown-fit schema tests path core accepts.slot (length tests) proof accepts.conflict.core_is.within accepts.conflict.shows

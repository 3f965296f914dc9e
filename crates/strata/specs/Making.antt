-- What the steps of making strata come to, slot by slot.
use Rattle.std.specs.Prelude.{◌≡◌, ◌<◌, ◌≤◌, ◌^◌, ⊤, ℕ, List, [], All, length, slice_index_or, Result, Ok, Err}
use Rattle.policy_model.specs.declared.schema.Schema.{Schema}
use Rattle.policy_model.specs.declared.test.Slot.{Slot}
use Rattle.policy_model.specs.declared.test.Slot.TheVariants as slot
use Rattle.policy_model.specs.declared.test.Test.{Test}
use Rattle.strata.specs.declared.outcome.StrataFault.{StrataFault}
use Rattle.strata.specs.declared.outcome.StrataFault.TheVariants.{TooManyPredicates, Wide, NoMemory}
use Rattle.strata.specs.declared.predicate.Predicate.{Predicate}
use Rattle.strata.specs.declared.stratum.Strata.{Strata}
use Rattle.strata.specs.declared.stratum.Stratum.{Stratum}
use Rattle.strata.specs.Below.{AreKeptAmong}
use Rattle.strata.specs.Causes.{IsFirstTooMany}
use Rattle.strata.specs.Predicates.{AreNamed, SuitsSlot}
use Rattle.strata.specs.Rows.{RowsDecideOrder}
use Rattle.strata.specs.Settling.{FailsAmong}
use Rattle.strata.specs.Strata.{IsOrder}

-- the slot and the predicates of a number
abbrev pub slot_at : List Slot → ℕ → Slot
slot_at slots d = slice_index_or slots d slot.Principal

abbrev pub named_at : List (List Predicate) → ℕ → List Predicate
named_at all d = slice_index_or all d []

-- the predicates of the slot that are named, which aren't too many
pub record AreFewNamed (most : ℕ) (tests : List Test) (s : Slot) (names : List Predicate) : Type 0 where
  pub named : AreNamed s tests names
  pub few : length names ≤ most

-- for each of the first n slots those that are named in it
pub record AreAllNamed (most : ℕ) (tests : List Test) (slots : List Slot) (n : ℕ) (all : List (List Predicate)) : Type 0 where
  pub count : length all ≡ n
  pub each : (d : ℕ) → d < n → AreFewNamed most tests (slot_at slots d) (named_at all d)

-- for each slot those that are named in it, or the first slot in which there are too many
abbrev pub NamesAll : ℕ → List Test → List Slot → Result (List (List Predicate)) StrataFault → Type 0
NamesAll most tests slots (Ok all) = AreAllNamed most tests slots (length slots) all
NamesAll most tests slots (Err (TooManyPredicates d)) = IsFirstTooMany most tests slots d
NamesAll most tests slots (Err (Wide s texts)) = ⊥
NamesAll most tests slots (Err NoMemory) = ⊤

-- those that are kept of the predicates that are named in the slot, with their order
pub record IsStratumOf (schema : Schema) (s : Slot) (names : List Predicate) (x : Stratum) : Type 0 where
  pub slot : x.slot ≡ s
  pub kept : AreKeptAmong schema s names x.predicates
  pub order : IsOrder schema s x.predicates x.below
  pub rows_decide : RowsDecideOrder schema s x.predicates x.rows

abbrev pub MakesStratum : Schema → ℕ → Slot → List Predicate → Result Stratum StrataFault → Type 0
MakesStratum schema states s names (Ok x) = IsStratumOf schema s names x
MakesStratum schema states s names (Err e) = FailsAmong schema states s names e

-- the predicates of each slot suit it, and are numbered by 32 bits
pub record SuitSlots (schema : Schema) (slots : List Slot) (all : List (List Predicate)) : Type 0 where
  pub count : length all ≡ length slots
  pub suit : (d : ℕ) → d < length slots → All (SuitsSlot schema (slot_at slots d)) (named_at all d)
  pub few : (d : ℕ) → d < length slots → length (named_at all d) < 2 ^ 32

-- the strata of the first n slots
pub record AreStrataAmong (schema : Schema) (slots : List Slot) (all : List (List Predicate)) (n : ℕ) (made : List Stratum)
    : Type 0 where
  pub count : length made ≡ n
  pub each : (d : ℕ) (x : Stratum) → d < n → IsStratumOf schema (slot_at slots d) (named_at all d) (slice_index_or made d x)

-- two of the predicates of some slot are too wide in it
pub record FailsSomewhere (schema : Schema) (states : ℕ) (slots : List Slot) (all : List (List Predicate)) (e : StrataFault)
    : Type 0 where
  pub index : ℕ
  pub within : index < length slots
  pub fails : FailsAmong schema states (slot_at slots index) (named_at all index) e

-- a stratum for each slot, or why there is none
abbrev pub MakesAll : Schema → ℕ → List Slot → List (List Predicate) → Result Strata StrataFault → Type 0
MakesAll schema states slots all (Ok strata) = AreStrataAmong schema slots all (length slots) strata.dimensions
MakesAll schema states slots all (Err NoMemory) = ⊤
MakesAll schema states slots all (Err e) = FailsSomewhere schema states slots all e

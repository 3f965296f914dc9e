-- The predicates of slots and their order.
use Rattle.std.specs.Prelude.{◌≡◌, ◌↔◌, ◌<◌, ℕ, Bool, IsTrue, List, length, map, All, Some, slice_get}
use Rattle.policy_model.specs.declared.schema.Schema.{Schema}
use Rattle.policy_model.specs.declared.test.Slot.{Slot}
use Rattle.policy_model.specs.declared.test.Test.{Test}
use Rattle.policy_compile.specs.declared.outcome.Query.{Query}
use Rattle.strata.specs.declared.predicate.Predicate.{Predicate}
use Rattle.strata.specs.declared.stratum.Stratum.{Stratum}
use Rattle.strata.specs.declared.stratum.Strata.{Strata}
use Rattle.strata.specs.Predicates.{AreNamed}
use Rattle.strata.specs.Below.{AreKeptAmong}
use Rattle.strata.specs.Covers.{AreMaximalBelow, IsBelowAt, OrderIsDecided}
use Rattle.strata.specs.Rows.{RowsDecideOrder}

-- the predicates are those that are kept of what the tests name in the slot
pub record AreKeptOf (schema : Schema) (s : Slot) (tests : List Test) (predicates : List Predicate) : Type 0 where
  pub names : List Predicate
  pub named : AreNamed s tests names
  pub kept : AreKeptAmong schema s names predicates

-- the lists hold for each of the predicates which are maximal strictly below it
pub record IsOrder (schema : Schema) (s : Slot) (kept : List Predicate) (lists : List (List ℕ)) : Type 0 where
  pub count : length lists ≡ length kept
  pub each : (i : ℕ) (numbers : List ℕ) → slice_get lists i ≡ Some numbers → AreMaximalBelow schema s kept i numbers
  pub decided : OrderIsDecided schema s kept

-- the stratum has the predicates of its slot that are kept, their order, and the answers to all questions on it
pub record IsStratum (schema : Schema) (tests : List Test) (x : Stratum) : Type 0 where
  pub predicates : AreKeptOf schema x.slot tests x.predicates
  pub order : IsOrder schema x.slot x.predicates x.below
  pub rows_decide : RowsDecideOrder schema x.slot x.predicates x.rows

-- a stratum for each of the slots, in their order
pub record AreStrata (schema : Schema) (query : Query) (slots : List Slot) (strata : Strata) : Type 0 where
  pub on : map (λ x. x.slot) strata.dimensions ≡ slots
  pub each : All (IsStratum schema query.tests) strata.dimensions

-- both numbers are there, and number j is below number i
pub record IsBelowIn (schema : Schema) (x : Stratum) (j i : ℕ) : Type 0 where
  pub lower : j < length x.predicates
  pub upper : i < length x.predicates
  pub below : IsBelowAt schema x.slot x.predicates j i

-- the same in the stratum of a dimension that is there
pub record IsBelowInDimension (schema : Schema) (strata : Strata) (d j i : ℕ) : Type 0 where
  pub stratum : Stratum
  pub at : slice_get strata.dimensions d ≡ Some stratum
  pub below : IsBelowIn schema stratum j i

-- the answer whether number j is below number i, under whichever schema and of whichever tests this is a stratum
abbrev pub AnswersOrderOf : Stratum → ℕ → ℕ → Bool → Type 0
AnswersOrderOf x j i b =
    (schema : Schema) (tests : List Test) → IsStratum schema tests x → IsTrue b ↔ IsBelowIn schema x j i

-- and in a dimension
abbrev pub AnswersOrderIn : Strata → ℕ → ℕ → ℕ → Bool → Type 0
AnswersOrderIn strata d j i b =
    (schema : Schema) (tests : List Test) → All (IsStratum schema tests) strata.dimensions →
    IsTrue b ↔ IsBelowInDimension schema strata d j i

-- The strict order of the predicates that are kept, by their numbers, and its steps.
use Rattle.std.specs.Prelude.{◌≡◌, ◌≢◌, ◌<◌, ◌⊎◌, ◌↔◌, ℕ, List, true, Contains, slice_index_or, length}
use Rattle.pattern_automata.specs.Closed.{rises_from}
use Rattle.policy_model.specs.declared.schema.Schema.{Schema}
use Rattle.policy_model.specs.declared.test.Slot.{Slot}
use Rattle.strata.specs.declared.predicate.Predicate.{Predicate}
use Rattle.strata.specs.declared.predicate.Predicate.TheVariants.{Every}
use Rattle.strata.specs.Below.{IsApart, IsBelow}

-- the predicate of a number
abbrev pub predicate_at : List Predicate → ℕ → Predicate
predicate_at kept i = slice_index_or kept i Every

-- number j is below number i
abbrev pub IsBelowAt : Schema → Slot → List Predicate → ℕ → ℕ → Type 0
IsBelowAt schema s kept j i = IsBelow schema s (predicate_at kept j) (predicate_at kept i)

-- some valid request meets number j and not number i
abbrev pub IsApartAt : Schema → Slot → List Predicate → ℕ → ℕ → Type 0
IsApartAt schema s kept j i = IsApart schema s (predicate_at kept j) (predicate_at kept i)

-- number j is strictly below number i: below it, and another one
pub record IsStrictlyBelow (schema : Schema) (s : Slot) (kept : List Predicate) (j i : ℕ) : Type 0 where
  pub lower : j < length kept
  pub upper : i < length kept
  pub differ : j ≢ i
  pub below : IsBelowAt schema s kept j i

-- number j is maximal strictly below number i: nothing lies strictly between them
pub record IsMaximalBelow (schema : Schema) (s : Slot) (kept : List Predicate) (j i : ℕ) : Type 0 where
  pub strictly : IsStrictlyBelow schema s kept j i
  pub maximal : (k : ℕ) → IsStrictlyBelow schema s kept j k → IsStrictlyBelow schema s kept k i → ⊥

-- the numbers, in rising order, of those that are maximal strictly below number i
pub record AreMaximalBelow (schema : Schema) (s : Slot) (kept : List Predicate) (i : ℕ) (numbers : List ℕ) : Type 0 where
  pub rise : rises_from 0 numbers ≡ true
  pub exact : (j : ℕ) → Contains numbers j ↔ IsMaximalBelow schema s kept j i

-- of each two numbers the one is below the other, or some valid request meets the one and not the other
abbrev pub OrderIsDecided : Schema → Slot → List Predicate → Type 0
OrderIsDecided schema s kept =
    (j i : ℕ) → j < length kept → i < length kept → IsBelowAt schema s kept j i ⊎ IsApartAt schema s kept j i

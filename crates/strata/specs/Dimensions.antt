-- The parts of strata by the numbers of their dimensions.
use Rattle.std.specs.Prelude.{ℕ, List, [], Option, option_map, slice_get, unwrap_or}
use Rattle.policy_model.specs.declared.test.Slot.{Slot}
use Rattle.strata.specs.declared.predicate.Predicate.{Predicate}
use Rattle.strata.specs.declared.stratum.Strata.{Strata}

-- the slot of a dimension, where it is there
abbrev pub slot_in : Strata → ℕ → Option Slot
slot_in strata d = option_map (λ x. x.slot) (slice_get strata.dimensions d)

-- the predicates of a dimension. One that isn't there has none
abbrev pub predicates_in : Strata → ℕ → List Predicate
predicates_in strata d = unwrap_or (option_map (λ x. x.predicates) (slice_get strata.dimensions d)) []

-- for each of them the numbers of those that are maximal strictly below it
abbrev pub below_in : Strata → ℕ → List (List ℕ)
below_in strata d = unwrap_or (option_map (λ x. x.below) (slice_get strata.dimensions d)) []

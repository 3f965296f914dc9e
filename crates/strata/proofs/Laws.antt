-- The lemmas on the order of predicates that crates above cite.
use Rattle.std.proofs.Common.{◌≡◌, ℕ, ◌<◌, List, ◌∷◌, length, All, ◌⊎◌}
use Rattle.policy_model.specs.declared.schema.Schema.{Schema}
use Rattle.policy_model.specs.declared.test.Slot.{Slot}
use Rattle.policy_model.specs.declared.test.Test.{Test}
use Rattle.policy_model.specs.Requests.{HasValidRequest}
use Rattle.policy_model.specs.Soundness.{TestSuits}
use Rattle.strata.specs.declared.predicate.Predicate.{Predicate}
use Rattle.strata.specs.declared.predicate.Predicate.TheVariants.{Every}
use Rattle.strata.specs.declared.stratum.Stratum.{Stratum}
use Rattle.strata.specs.Below.{IsBelow, IsMetUnder}
use Rattle.strata.specs.Covers.{IsBelowAt, IsMaximalBelow, IsStrictlyBelow}
use Rattle.strata.specs.Predicates.{AreNamed, SuitsSlot}
use Rattle.strata.specs.Strata.{IsStratum}
use Rattle.strata.proofs.Ordering as ordering
use Rattle.strata.proofs.Stepping as stepping
use Rattle.strata.proofs.Suiting as suiting

-- each predicate is below itself
pub below-self : (schema : Schema) (s : Slot) (p : Predicate) → IsBelow schema s p p
below-self = ordering.below-self

-- one that is below another is below all that the other is below
pub below-through : (schema : Schema) (s : Slot) (p q t : Predicate) → IsBelow schema s p q → IsBelow schema s q t → IsBelow schema s p t
below-through = ordering.below-through

-- no number is strictly below itself
pub strictly-irreflexive : (schema : Schema) (s : Slot) (kept : List Predicate) (i : ℕ) → IsStrictlyBelow schema s kept i i → ⊥
strictly-irreflexive = ordering.strictly-irreflexive

-- two numbers of a stratum that are below one another are the same
pub stratum-differ : (schema : Schema) (tests : List Test) (x : Stratum) (i j : ℕ) → IsStratum schema tests x → i < length x.predicates → j < length x.predicates → IsBelowAt schema x.slot x.predicates i j → IsBelowAt schema x.slot x.predicates j i → i ≡ j
stratum-differ schema tests x i j is = ordering.kept-differ schema x.slot is.predicates.names x.predicates i j is.predicates.kept

-- strictly below is transitive
pub stratum-through : (schema : Schema) (tests : List Test) (x : Stratum) (i j k : ℕ) → IsStratum schema tests x → IsStrictlyBelow schema x.slot x.predicates i j → IsStrictlyBelow schema x.slot x.predicates j k → IsStrictlyBelow schema x.slot x.predicates i k
stratum-through schema tests x i j k is = ordering.strictly-through schema x.slot is.predicates.names x.predicates i j k is.predicates.kept

-- it is known of each two numbers whether the one is strictly below the other
pub stratum-decided : (schema : Schema) (tests : List Test) (x : Stratum) (i j : ℕ) → IsStratum schema tests x → i < length x.predicates → j < length x.predicates → IsStrictlyBelow schema x.slot x.predicates i j ⊎ (IsStrictlyBelow schema x.slot x.predicates i j → ⊥)
stratum-decided schema tests x i j is = stepping.strictly-decided schema x.slot is.predicates.names x.predicates is.predicates.kept is.order.decided i j

-- where i is strictly below j, some number that is maximal strictly below j is i or has i strictly below it
pub last-step : (schema : Schema) (tests : List Test) (x : Stratum) (i j : ℕ) → IsStratum schema tests x → IsStrictlyBelow schema x.slot x.predicates i j → (m : ℕ) × IsMaximalBelow schema x.slot x.predicates m j × ((i ≡ m) ⊎ IsStrictlyBelow schema x.slot x.predicates i m)
last-step schema tests x i j is = stepping.last-step schema x.slot is.predicates.names x.predicates is.predicates.kept is.order.decided i j

-- and i is maximal strictly below some number that is j or strictly below it
pub first-step : (schema : Schema) (tests : List Test) (x : Stratum) (i j : ℕ) → IsStratum schema tests x → IsStrictlyBelow schema x.slot x.predicates i j → (m : ℕ) × IsMaximalBelow schema x.slot x.predicates i m × ((m ≡ j) ⊎ IsStrictlyBelow schema x.slot x.predicates m j)
first-step schema tests x i j is = stepping.first-step schema x.slot is.predicates.names x.predicates is.predicates.kept is.order.decided i j

-- the first predicate of a stratum is `any`
pub any-first : (schema : Schema) (tests : List Test) (x : Stratum) → HasValidRequest schema → IsStratum schema tests x → (rest : List Predicate) × (x.predicates ≡ Every ∷ rest)
any-first schema tests x some is = ordering.any-first schema x.slot tests x.predicates some is.predicates

-- and each other one is strictly below it
pub all-below-any : (schema : Schema) (tests : List Test) (x : Stratum) (i : ℕ) → HasValidRequest schema → IsStratum schema tests x → 0 < i → i < length x.predicates → IsStrictlyBelow schema x.slot x.predicates i 0
all-below-any schema tests x i some is = ordering.all-below-any schema x.slot tests x.predicates i some is.predicates

-- some valid request meets each predicate of a stratum
pub stratum-met : (schema : Schema) (tests : List Test) (x : Stratum) → IsStratum schema tests x → All (IsMetUnder schema x.slot) x.predicates
stratum-met schema tests x is = ordering.kept-met schema x.slot _ is.predicates.names x.predicates is.predicates.kept

-- each predicate of a stratum suits its slot, where the tests suit the schema
pub stratum-suits : (schema : Schema) (tests : List Test) (x : Stratum) → All (TestSuits schema) tests → IsStratum schema tests x → All (SuitsSlot schema x.slot) x.predicates
stratum-suits schema tests x suit is = ordering.kept-named (SuitsSlot schema x.slot) schema x.slot _ is.predicates.names x.predicates is.predicates.kept (suiting.named-suit schema x.slot tests is.predicates.names suit is.predicates.named)

-- the predicates that tests name in a slot suit it, where the tests suit the schema
pub named-suit : (schema : Schema) (s : Slot) (tests : List Test) (names : List Predicate) → All (TestSuits schema) tests → AreNamed s tests names → All (SuitsSlot schema s) names
named-suit = suiting.named-suit

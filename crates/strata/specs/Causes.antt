-- What making strata comes to: the strata, or why there are none.
use Rattle.std.specs.Prelude.{◌≡◌, ◌≢◌, ◌<◌, ⊤, ℕ, List, All, Contains, Some, Result, Ok, Err, length, slice_get}
use Rattle.wildcard_lang.specs.Places.{ShowWider}
use Rattle.policy_model.specs.declared.schema.Schema.{Schema}
use Rattle.policy_model.specs.declared.test.Slot.{Slot}
use Rattle.policy_model.specs.declared.test.Test.{Test}
use Rattle.policy_compile.specs.declared.outcome.Query.{Query}
use Rattle.strata.specs.declared.outcome.StrataFault.{StrataFault}
use Rattle.strata.specs.declared.outcome.StrataFault.TheVariants.{TooManyPredicates, Wide, NoMemory}
use Rattle.strata.specs.declared.predicate.Predicate.{Predicate}
use Rattle.strata.specs.declared.stratum.Strata.{Strata}
use Rattle.strata.specs.Asking.{pair_patterns}
use Rattle.strata.specs.Predicates.{AreNamed}
use Rattle.strata.specs.Strata.{AreStrata}

-- more predicates are named in the slot than there may be, `any` among them
pub record NamesTooMany (most : ℕ) (tests : List Test) (s : Slot) : Type 0 where
  pub names : List Predicate
  pub named : AreNamed s tests names
  pub many : most < length names

-- in no slot are there more
abbrev pub AreFew : ℕ → List Test → List Slot → Type 0
AreFew most tests slots = All (λ s. ¬ NamesTooMany most tests s) slots

-- slot d is the first in which there are
pub record IsFirstTooMany (most : ℕ) (tests : List Test) (slots : List Slot) (d : ℕ) : Type 0 where
  pub slot : Slot
  pub at : slice_get slots d ≡ Some slot
  pub many : NamesTooMany most tests slot
  pub first : (e : ℕ) (s : Slot) → e < d → slice_get slots e ≡ Some s → ¬ NamesTooMany most tests s

-- two of these predicates, which differ, are wider in the slot than the number of states: one more text than that, with different
-- product states of the patterns of both
pub record HaveWidePair (schema : Schema) (states : ℕ) (s : Slot) (names : List Predicate) (texts : List (List ℕ)) : Type 0 where
  pub one : Predicate
  pub other : Predicate
  pub one_named : Contains names one
  pub other_named : Contains names other
  pub differ : one ≢ other
  pub wider : ShowWider (pair_patterns schema s one other) states texts

-- two predicates that are named in the slot are
pub record NamesWide (schema : Schema) (tests : List Test) (states : ℕ) (s : Slot) (texts : List (List ℕ)) : Type 0 where
  pub names : List Predicate
  pub named : AreNamed s tests names
  pub wide : HaveWidePair schema states s names texts

-- the strata of the slots, where in none too many predicates are named; or the first slot in which there are; or, where there is
-- none, a slot with two predicates whose patterns are wider than the number of states
abbrev pub AreStrataOf : ℕ → Schema → ℕ → Query → List Slot → Result Strata StrataFault → Type 0
AreStrataOf most schema states query slots (Ok strata) = AreStrata schema query slots strata × AreFew most query.tests slots
AreStrataOf most schema states query slots (Err (TooManyPredicates d)) = IsFirstTooMany most query.tests slots d
AreStrataOf most schema states query slots (Err (Wide s texts)) =
    Contains slots s × AreFew most query.tests slots × NamesWide schema query.tests states s texts
AreStrataOf most schema states query slots (Err NoMemory) = ⊤

-- The predicates that tests name in a slot, and the requests that meet them.
use Rattle.std.specs.Prelude.{⊤, List, [], ◌∷◌, ◌++◌, map, Option, Some, None, MatchOption, Contains, if◌then◌else◌}
use Rattle.std.specs.List.{flat_map}
use Rattle.policy_model.specs.declared.request.Request.{Request}
use Rattle.policy_model.specs.declared.schema.Schema.{Schema}
use Rattle.policy_model.specs.declared.test.Slot.{Slot}
use Rattle.policy_model.specs.declared.test.Slot.TheVariants as slot
use Rattle.policy_model.specs.declared.test.Test.{Test}
use Rattle.policy_model.specs.declared.test.Test.TheVariants as test
use Rattle.policy_model.specs.Soundness.{TestSuits}
use Rattle.policy_model.specs.Tests.{TestHolds}
use Rattle.slot_theory.specs.Slots.{is_on}
use Rattle.strata.specs.declared.predicate.Predicate.{Predicate}
use Rattle.strata.specs.declared.predicate.Predicate.TheVariants.{Every, Principal, Word, Meets}

-- the test of a predicate in a slot. `any` has none, and neither has a predicate of another slot's form
abbrev pub test_of : Slot → Predicate → Option Test
test_of slot.Principal (Principal entry) = Some (test.Principal entry)
test_of slot.Action (Word pattern) = Some (test.Action pattern)
test_of slot.Resource (Word pattern) = Some (test.Resource pattern)
test_of (slot.Key key) (Meets c) = Some (test.SomeMeets key c)
test_of s p = None

-- the predicate is `any`, or P holds of its test in the slot
abbrev pub IsAnyOr : (Test → Type 0) → Slot → Predicate → Type 0
IsAnyOr P s Every = ⊤
IsAnyOr P s (Principal entry) = MatchOption (test_of s (Principal entry)) ⊥ P
IsAnyOr P s (Word pattern) = MatchOption (test_of s (Word pattern)) ⊥ P
IsAnyOr P s (Meets c) = MatchOption (test_of s (Meets c)) ⊥ P

-- the request meets the predicate: every request meets `any`, and another one is met where its test holds
abbrev pub MeetsPredicate : Slot → Predicate → Request → Type 0
MeetsPredicate s p r = IsAnyOr (TestHolds r) s p

-- the schema can answer for the predicate in the slot
abbrev pub SuitsSlot : Schema → Slot → Predicate → Type 0
SuitsSlot schema s p = IsAnyOr (TestSuits schema) s p

-- the predicates that a test names in its slot, in the order of its list. Whether a key is present names none
abbrev pub test_predicates : Test → List Predicate
test_predicates (test.Principal entry) = Principal entry ∷ []
test_predicates (test.Action pattern) = Word pattern ∷ []
test_predicates (test.Resource pattern) = Word pattern ∷ []
test_predicates (test.Present key) = []
test_predicates (test.SomeMeets key c) = Meets c ∷ []
test_predicates (test.SomeMeetsNone key cs) = map Meets cs

-- the predicates that the test names, where it is on the slot
abbrev pub read_of : Slot → Test → List Predicate
read_of s t = (if is_on s t then test_predicates t else [])

-- the predicates that the tests name in the slot, read in the order of the tests
abbrev pub read_in : Slot → List Test → List Predicate
read_in s tests = flat_map (read_of s) tests

-- with the predicates that are had already, what is had after these were read: each that isn't had is added at the end
pub data Gathers : List Predicate → List Predicate → List Predicate → Type 0 where
  gathers_none : {had : List Predicate} → Gathers had [] had
  gathers_again : {had read got : List Predicate} {p : Predicate} → Contains had p → Gathers had read got →
      Gathers had (p ∷ read) got
  gathers_anew : {had read got : List Predicate} {p : Predicate} → ¬ Contains had p → Gathers (had ++ p ∷ []) read got →
      Gathers had (p ∷ read) got

-- the predicates of the slot that are named: `any`, and then those that the tests name, equal ones once
abbrev pub AreNamed : Slot → List Test → List Predicate → Type 0
AreNamed s tests names = Gathers (Every ∷ []) (read_in s tests) names

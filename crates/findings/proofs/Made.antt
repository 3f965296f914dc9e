-- What strata that are made for a set say of their dimensions, and whether a finding's query may be asked.
use Rattle.std.proofs.Common.{ℕ, ◌<◌, ◌≤◌, ◌^◌, List, [], ◌∷◌, ◌++◌, length, map, inl, inr, sym, subst, arith}
use Rattle.std.specs.Prelude.{All, get_or}
use Rattle.std.proofs.lemmas.Bool.{cases_lt}
use Rattle.std.proofs.lemmas.List.{get_or_past}
use Rattle.std.proofs.lemmas.List.Elements.{All-append, All-cons, All-head, All-nil, All-tail, Contains-get_or}
use Rattle.formula_tree.specs.Trees.{tree_of}
use Rattle.policy_model.specs.declared.schema.Schema.{Schema}
use Rattle.policy_model.specs.declared.test.Slot.{Slot}
use Rattle.policy_model.specs.declared.test.Slot.TheVariants as slot
use Rattle.policy_model.specs.declared.test.Test.{Test}
use Rattle.policy_model.specs.Soundness.{TestSuits}
use Rattle.policy_compile.specs.declared.outcome.Query.{Query}
use Rattle.policy_compile.specs.Plans.{Plan, of_plans, tests_in, tests_in_each}
use Rattle.policy_compile.proofs.Laws.{All-collects, below-numbered}
use Rattle.strata.specs.declared.predicate.Predicate.{Predicate}
use Rattle.strata.specs.declared.predicate.Predicate.TheVariants.{Every, Principal, Word, Meets}
use Rattle.strata.specs.declared.stratum.Strata.{Strata}
use Rattle.strata.specs.declared.stratum.Stratum.{Stratum}
use Rattle.strata.specs.Below.{Keeps, drops_it, keeps_it, keeps_none}
use Rattle.strata.specs.Causes.{NamesTooMany}
use Rattle.strata.specs.Covers.{predicate_at}
use Rattle.strata.specs.Predicates.{SuitsSlot, test_of}
use Rattle.strata.specs.Strata.{IsStratum}
use Rattle.strata.proofs.Laws.{stratum-suits}
use Rattle.findings.specs.declared.region.Region.{Region}
use Rattle.findings.specs.Answers.{QueryIsAskable}
use Rattle.findings.specs.Queries.{AreMadeFor, IsFindingQuery, finding_plan, finer_plans, number_plan, numbers_below, own_plans, plan_or_yes}
use Rattle.findings.specs.Regions.{region_plan}
use Rattle.findings.specs.Steps.{AreNumberedBelow, IsNumberedBelow}
use Rattle.findings.proofs.Ordered.{all-have-steps, below-among}
use Rattle.findings.proofs.Orders.{AllHaveSteps}
use Rattle.findings.proofs.Owning.{AllSuit}
use Rattle.findings.proofs.Regions.{region-suits}

-- ---- dimension by dimension

kept-fewer : (schema : Schema) (s : Slot) (earlier names kept : List Predicate) → Keeps schema s earlier names kept → length kept ≤ length names
kept-fewer schema s earlier [] [] keeps_none = omega arith
kept-fewer schema s earlier [] (q ∷ kept) x = elim x [ ]
kept-fewer schema s earlier (p ∷ names) kept (keeps_it {kept = more} is rest) = omega (arith, kept-fewer schema s (earlier ++ p ∷ []) names more rest)
kept-fewer schema s earlier (p ∷ names) kept (drops_it is rest) = omega (arith, kept-fewer schema s (earlier ++ p ∷ []) names kept rest)

few-below : (most : ℕ) → most < 2 ^ 32 → (schema : Schema) (tests : List Test) (d : Stratum) → IsStratum schema tests d → ¬ NamesTooMany most tests d.slot → length d.below < 2 ^ 32
few-below most bound schema tests d is few = elim (cases_lt most (length is.predicates.names)) [
  | inl many ↦ absurd (few (record { names = is.predicates.names; named = is.predicates.named; many = many }))
  | inr fits ↦ omega (arith, is.order.count, kept-fewer schema d.slot [] is.predicates.names d.predicates is.predicates.kept, fits, bound)
]

numbered-below : (most : ℕ) → most < 2 ^ 32 → (schema : Schema) (tests : List Test) (d : Stratum) → IsStratum schema tests d → ¬ NamesTooMany most tests d.slot → IsNumberedBelow d
numbered-below most bound schema tests d is few = record {
  count = is.order.count;
  few = few-below most bound schema tests d is few;
  each = λ n k x within. (below-among schema tests d is (get_or (numbers_below d n) k x) n (Contains-get_or (numbers_below d n) k x within)).strictly.lower;
}

all-numbered : (most : ℕ) → most < 2 ^ 32 → (schema : Schema) (tests : List Test) (ds : List Stratum) → All (IsStratum schema tests) ds → All (λ s. ¬ NamesTooMany most tests s) (map (λ x. x.slot) ds) → AreNumberedBelow ds
all-numbered most bound schema tests [] are few = All-nil IsNumberedBelow
all-numbered most bound schema tests (d ∷ ds) are few = All-cons IsNumberedBelow d ds
    (numbered-below most bound schema tests d (All-head (IsStratum schema tests) d ds are) (All-head (λ (s : Slot). ¬ NamesTooMany most tests s) d.slot (map (λ x. x.slot) ds) few))
    (all-numbered most bound schema tests ds (All-tail (IsStratum schema tests) d ds are) (All-tail (λ (s : Slot). ¬ NamesTooMany most tests s) d.slot (map (λ x. x.slot) ds) few))

suits-at : (schema : Schema) (tests : List Test) (d : Stratum) → All (TestSuits schema) tests → IsStratum schema tests d → (n : ℕ) → SuitsSlot schema d.slot (predicate_at d.predicates n)
suits-at schema tests d suit is n = elim (cases_lt n (length d.predicates)) [
  | inl within ↦ stratum-suits schema tests d suit is n Every within
  | inr past ↦ subst (SuitsSlot schema d.slot) (sym (get_or_past d.predicates n Every past)) tt
]

all-suit : (schema : Schema) (tests : List Test) → All (TestSuits schema) tests → (ds : List Stratum) → All (IsStratum schema tests) ds → AllSuit schema ds
all-suit schema tests suit [] are = tt
all-suit schema tests suit (d ∷ ds) are = (suits-at schema tests d suit (All-head (IsStratum schema tests) d ds are), all-suit schema tests suit ds (All-tail (IsStratum schema tests) d ds are))

-- ---- strata made for a set

module _ (schema : Schema) (region : Region) (base : Query) (strata : Strata) (made : AreMadeFor schema region base strata) where
  pub made-steps : AllHaveSteps schema strata.dimensions
  made-steps = all-have-steps schema base.tests made.has_request strata.dimensions made.are.each

  pub made-numbered : AreNumberedBelow strata.dimensions
  made-numbered = all-numbered made.most made.few schema base.tests strata.dimensions made.are.each (subst (λ (slots : List Slot). All (λ s. ¬ NamesTooMany made.most base.tests s) slots) (sym made.are.on) made.named)

  pub made-few : length base.tests < 2 ^ 32
  made-few = omega (arith, made.query.few)

  pub base-suits : All (TestSuits schema) base.tests
  base-suits = All-collects (TestSuits schema) [] (tests_in (region_plan schema region)) base.tests made.query.tests (All-nil (TestSuits schema)) (region-suits schema region made.fits)

  pub made-suits : AllSuit schema strata.dimensions
  made-suits = all-suit schema base.tests base-suits strata.dimensions made.are.each

-- ---- the tests of a finding's query

predicate-suits : (schema : Schema) (s : Slot) (p : Predicate) → SuitsSlot schema s p → All (TestSuits schema) (tests_in (plan_or_yes (test_of s p)))
predicate-suits schema slot.Principal Every suits = All-nil (TestSuits schema)
predicate-suits schema slot.Action Every suits = All-nil (TestSuits schema)
predicate-suits schema slot.Resource Every suits = All-nil (TestSuits schema)
predicate-suits schema (slot.Key key) Every suits = All-nil (TestSuits schema)
predicate-suits schema slot.Principal (Principal entry) suits = All-cons (TestSuits schema) _ [] suits (All-nil (TestSuits schema))
predicate-suits schema slot.Action (Principal entry) suits = absurd suits
predicate-suits schema slot.Resource (Principal entry) suits = absurd suits
predicate-suits schema (slot.Key key) (Principal entry) suits = absurd suits
predicate-suits schema slot.Principal (Word pattern) suits = absurd suits
predicate-suits schema slot.Action (Word pattern) suits = All-cons (TestSuits schema) _ [] suits (All-nil (TestSuits schema))
predicate-suits schema slot.Resource (Word pattern) suits = All-cons (TestSuits schema) _ [] suits (All-nil (TestSuits schema))
predicate-suits schema (slot.Key key) (Word pattern) suits = absurd suits
predicate-suits schema slot.Principal (Meets c) suits = absurd suits
predicate-suits schema slot.Action (Meets c) suits = absurd suits
predicate-suits schema slot.Resource (Meets c) suits = absurd suits
predicate-suits schema (slot.Key key) (Meets c) suits = All-cons (TestSuits schema) _ [] suits (All-nil (TestSuits schema))

pub own-suit : (schema : Schema) (ds : List Stratum) → AllSuit schema ds → (f : List ℕ) (rest : List Plan) → All (TestSuits schema) (tests_in_each (of_plans rest)) → All (TestSuits schema) (tests_in_each (of_plans (own_plans ds f ++ rest)))
own-suit schema [] suit f rest more = more
own-suit schema (d ∷ ds) suit [] rest more = more
own-suit schema (d ∷ ds) suit (n ∷ f) rest more =
    All-append (TestSuits schema) (tests_in (number_plan d n)) (tests_in_each (of_plans (own_plans ds f ++ rest))) (predicate-suits schema d.slot (predicate_at d.predicates n) (suit.0 n)) (own-suit schema ds suit.1 f rest more)

numbers-suit : (schema : Schema) (d : Stratum) → ((n : ℕ) → SuitsSlot schema d.slot (predicate_at d.predicates n)) → (numbers : List ℕ) (rest : List Plan) → All (TestSuits schema) (tests_in_each (of_plans rest)) → All (TestSuits schema) (tests_in_each (of_plans (map (number_plan d) numbers ++ rest)))
numbers-suit schema d suit [] rest more = more
numbers-suit schema d suit (n ∷ ns) rest more =
    All-append (TestSuits schema) (tests_in (number_plan d n)) (tests_in_each (of_plans (map (number_plan d) ns ++ rest))) (predicate-suits schema d.slot (predicate_at d.predicates n) (suit n)) (numbers-suit schema d suit ns rest more)

pub finer-suit : (schema : Schema) (ds : List Stratum) → AllSuit schema ds → (f : List ℕ) → All (TestSuits schema) (tests_in_each (of_plans (finer_plans ds f)))
finer-suit schema [] suit f = All-nil (TestSuits schema)
finer-suit schema (d ∷ ds) suit [] = All-nil (TestSuits schema)
finer-suit schema (d ∷ ds) suit (n ∷ f) = numbers-suit schema d suit.0 (numbers_below d n) (finer_plans ds f) (finer-suit schema ds suit.1 f)

finding-suits : (schema : Schema) (ds : List Stratum) → AllSuit schema ds → (f : List ℕ) (allowed : Plan) → All (TestSuits schema) (tests_in allowed) → All (TestSuits schema) (tests_in (finding_plan allowed ds f))
finding-suits schema ds suit f allowed suits = own-suit schema ds suit f _
    (All-append (TestSuits schema) (tests_in_each (of_plans (finer_plans ds f))) (tests_in allowed ++ []) (finer-suit schema ds suit f) (All-append (TestSuits schema) (tests_in allowed) [] suits (All-nil (TestSuits schema))))

-- the query may be asked of whoever answers for the schema
pub made-askable : (schema : Schema) (region : Region) (base : Query) (strata : Strata) → AreMadeFor schema region base strata → (f : List ℕ) (q : Query) → IsFindingQuery (region_plan schema region) strata.dimensions f q → length q.tests < 2 ^ 32 → QueryIsAskable schema q
made-askable schema region base strata made f q asks count =
    let plan = finding_plan (region_plan schema region) strata.dimensions f in
    record {
      sound = made.sound;
      suit = All-collects (TestSuits schema) [] (tests_in plan) q.tests asks.tests (All-nil (TestSuits schema)) (finding-suits schema strata.dimensions (made-suits schema region base strata made) f (region_plan schema region) (region-suits schema region made.fits));
      count = count;
      below = below-numbered q.tests plan (tree_of q.formula.value) asks.tree;
    }

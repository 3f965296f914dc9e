-- The query of a finding: whether a request is the finding's own.
use Rattle.std.specs.Prelude.{◌≢◌, ◌<◌, ◌^◌, ℕ, List, [], ◌∷◌, ◌++◌, All, AllPairs, Option, Some, None, map, slice_index_or}
use Rattle.formula_tree.specs.Trees.{tree_of}
use Rattle.policy_model.specs.declared.schema.Schema.{Schema}
use Rattle.policy_model.specs.declared.test.Slot.{Slot}
use Rattle.policy_model.specs.declared.test.Test.{Test}
use Rattle.policy_model.specs.Requests.{HasValidRequest}
use Rattle.policy_model.specs.Soundness.{SchemaIsSound}
use Rattle.policy_compile.specs.declared.outcome.Query.{Query}
use Rattle.policy_compile.specs.Numbering.{Collects, IsNumbered}
use Rattle.policy_compile.specs.Plans.{Plan, all, ask, not, of_plans, one_of, tests_in, yes}
use Rattle.policy_compile.specs.Queries.{IsQuery}
use Rattle.slot_theory.specs.Slots.{SlotIsIn}
use Rattle.strata.specs.declared.stratum.Strata.{Strata}
use Rattle.strata.specs.declared.stratum.Stratum.{Stratum}
use Rattle.strata.specs.Causes.{AreFew}
use Rattle.strata.specs.Covers.{predicate_at}
use Rattle.strata.specs.Predicates.{test_of}
use Rattle.strata.specs.Strata.{AreStrata}
use Rattle.findings.specs.declared.region.Region.{Region}
use Rattle.findings.specs.Regions.{RegionFits, region_plan}

-- a test, or what always holds where there is none
abbrev pub plan_or_yes : Option Test → Plan
plan_or_yes None = yes
plan_or_yes (Some t) = ask t

-- that the request meets the predicate of a number
abbrev pub number_plan : Stratum → ℕ → Plan
number_plan d n = plan_or_yes (test_of d.slot (predicate_at d.predicates n))

-- the numbers of the predicates that are maximal strictly below that of the number
abbrev pub numbers_below : Stratum → ℕ → List ℕ
numbers_below d n = slice_index_or d.below n []

-- the predicates of the finding, one for each dimension
abbrev pub own_plans : List Stratum → List ℕ → List Plan
own_plans [] f = []
own_plans (d ∷ ds) [] = []
own_plans (d ∷ ds) (n ∷ f) = number_plan d n ∷ own_plans ds f

-- of each dimension the predicates that are maximal strictly below the finding's
abbrev pub finer_plans : List Stratum → List ℕ → List Plan
finer_plans [] f = []
finer_plans (d ∷ ds) [] = []
finer_plans (d ∷ ds) (n ∷ f) = map (number_plan d) (numbers_below d n) ++ finer_plans ds f

-- each predicate of the finding holds, none of those right below does, and the region's plan does
abbrev pub finding_plans : Plan → List Stratum → List ℕ → List Plan
finding_plans allowed ds f = own_plans ds f ++ not (one_of (of_plans (finer_plans ds f))) ∷ allowed ∷ []

abbrev pub finding_plan : Plan → List Stratum → List ℕ → Plan
finding_plan allowed ds f = all (of_plans (finding_plans allowed ds f))

-- the plan with its tests' numbers, and its tests, each once, in the order in which they are first read
pub record IsFindingQuery (allowed : Plan) (ds : List Stratum) (f : List ℕ) (q : Query) : Type 0 where
  pub tests : Collects [] (tests_in (finding_plan allowed ds f)) q.tests
  pub tree : IsNumbered q.tests (finding_plan allowed ds f) (tree_of q.formula.value)

-- the query is that of the region under the schema, which has a valid request, and the strata are those of the query: of slots that
-- differ, and that requests under the schema have, with fewer predicates each than 32 bits number
pub record AreMadeFor (schema : Schema) (region : Region) (base : Query) (strata : Strata) : Type 0 where
  pub sound : SchemaIsSound schema
  pub fits : RegionFits schema region
  pub has_request : HasValidRequest schema
  pub query : IsQuery (region_plan schema region) base
  pub slots : List Slot
  pub differ : AllPairs (λ s t. s ≢ t) slots
  pub known : All (SlotIsIn schema) slots
  pub most : ℕ
  pub few : most < 2 ^ 32
  pub named : AreFew most base.tests slots
  pub are : AreStrata schema base slots strata

-- for some region
abbrev pub AreMadeUnder : Schema → Query → Strata → Type 0
AreMadeUnder schema base strata = (region : Region) × AreMadeFor schema region base strata

abbrev pub AreMade : Query → Strata → Type 0
AreMade base strata = (schema : Schema) × AreMadeUnder schema base strata

-- The query of a cover: whether a request of the region lies in none of the findings.
use Rattle.std.specs.Prelude.{◌↔◌, ◌≤◌, ⊤, ℕ, Bool, List, [], ◌∷◌, Any, IsTrue, length, map, Result, Ok, Err}
use Rattle.formula_tree.specs.Trees.{Tree, tree_of}
use Rattle.formula_tree.specs.Values.{holds}
use Rattle.policy_model.specs.declared.request.Request.{Request}
use Rattle.policy_model.specs.declared.schema.Schema.{Schema}
use Rattle.policy_model.specs.declared.test.Test.{Test}
use Rattle.policy_model.specs.Requests.{IsValid}
use Rattle.policy_compile.specs.declared.outcome.Query.{Query}
use Rattle.policy_compile.specs.Meaning.{AnswersAs}
use Rattle.policy_compile.specs.Numbering.{Collects, HasTooMany, IsNumbered}
use Rattle.policy_compile.specs.Plans.{Plan, all, not, of_plans, one_of, tests_in}
use Rattle.policy_compile.specs.Queries.{IsQuery}
use Rattle.strata.specs.declared.stratum.Strata.{Strata}
use Rattle.strata.specs.declared.stratum.Stratum.{Stratum}
use Rattle.findings.specs.declared.cover.TheConstants.{MOST_COVER_TESTS}
use Rattle.findings.specs.declared.cover.CoverFault.{CoverFault}
use Rattle.findings.specs.declared.cover.CoverFault.TheVariants.{NoMemory, TooManyTests}
use Rattle.findings.specs.declared.region.Region.{Region}
use Rattle.findings.specs.Asked.{IsAskableFor, IsAsked}
use Rattle.findings.specs.Findings.{LiesInFinding}
use Rattle.findings.specs.Queries.{AreMadeFor, own_plans}
use Rattle.findings.specs.Regions.{LiesInRegion}

-- that the request lies in the finding
abbrev pub lies_plan : List Stratum → List ℕ → Plan
lies_plan ds f = all (of_plans (own_plans ds f))

-- that it lies in one of the findings
abbrev pub inside_plan : List Stratum → List (List ℕ) → Plan
inside_plan ds fs = one_of (of_plans (map (lies_plan ds) fs))

-- that it lies in none of them
abbrev pub outside_plan : List Stratum → List (List ℕ) → Plan
outside_plan ds fs = not (inside_plan ds fs)

-- the request lies in the region, and in none of the findings
abbrev pub cover_plan : Plan → List Stratum → List (List ℕ) → Plan
cover_plan allowed ds fs = all (of_plans (allowed ∷ outside_plan ds fs ∷ []))

-- the plan's tests, each once, in the order in which they are first read, at most 1,000, and the plan with their numbers
pub record IsCoverQuery (allowed : Plan) (ds : List Stratum) (fs : List (List ℕ)) (q : Query) : Type 0 where
  pub tests : Collects [] (tests_in (cover_plan allowed ds fs)) q.tests
  pub few : length q.tests ≤ MOST_COVER_TESTS
  pub tree : IsNumbered q.tests (cover_plan allowed ds fs) (tree_of q.formula.value)

-- of whichever region the base is, the cover's query is that of its plan
abbrev pub AsksCover : Query → List Stratum → List (List ℕ) → Query → Type 0
AsksCover base ds fs q = (allowed : Plan) → IsQuery allowed base → IsCoverQuery allowed ds fs q

-- of whichever region the base is, the cover's plan is asked, before which there were no tests
abbrev pub IsCoverAsked : Query → List Stratum → List (List ℕ) → List Test → Tree → Type 0
IsCoverAsked base ds fs tests t = (allowed : Plan) → IsQuery allowed base → IsAsked [] tests (cover_plan allowed ds fs) t

-- the request lies in the region, and in none of the findings
pub record IsLeftOutByFindings (schema : Schema) (region : Region) (ds : List Stratum) (fs : List (List ℕ)) (r : Request) : Type 0 where
  pub allowed : LiesInRegion schema region r
  pub outside : ¬ Any (LiesInFinding r ds) fs

-- under the answers that a valid request gives its tests, the query's tree holds exactly where the request is left out
abbrev pub HoldsForLeftOut : Query → Strata → List (List ℕ) → Query → Type 0
HoldsForLeftOut base strata fs q =
    (schema : Schema) (region : Region) → AreMadeFor schema region base strata →
    (r : Request) (answers : ℕ → Bool) → IsValid schema r → AnswersAs answers r q.tests →
    (IsTrue (holds answers (tree_of q.formula.value)) ↔ IsLeftOutByFindings schema region strata.dimensions fs r)

-- what the query of a cover is and says
pub record IsCoverOf (base : Query) (strata : Strata) (fs : List (List ℕ)) (q : Query) : Type 0 where
  pub plan : AsksCover base strata.dimensions fs q
  pub left_out : HoldsForLeftOut base strata fs q
  pub askable : IsAskableFor base strata q

-- of whichever region the base is, the cover's plan has more than 1,000 different tests
abbrev pub CoverHasTooMany : Query → List Stratum → List (List ℕ) → Type 0
CoverHasTooMany base ds fs = (allowed : Plan) → IsQuery allowed base → HasTooMany [] (tests_in (cover_plan allowed ds fs))

-- the query of a cover, or why there is none
abbrev pub IsCoverAnswer : Query → Strata → List (List ℕ) → Result Query CoverFault → Type 0
IsCoverAnswer base strata fs (Ok q) = IsCoverOf base strata fs q
IsCoverAnswer base strata fs (Err TooManyTests) = CoverHasTooMany base strata.dimensions fs
IsCoverAnswer base strata fs (Err NoMemory) = ⊤

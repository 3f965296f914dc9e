-- Findings that have nobody, and the query that asks it of several at once.
use Rattle.std.specs.Prelude.{◌≡◌, ◌⊎◌, ◌↔◌, ℕ, Bool, List, All, Any, Contains, IsTrue}
use Rattle.formula_tree.specs.Trees.{tree_of}
use Rattle.formula_tree.specs.Values.{holds}
use Rattle.policy_model.specs.declared.request.Request.{Request}
use Rattle.policy_model.specs.declared.schema.Schema.{Schema}
use Rattle.policy_model.specs.Requests.{IsValid}
use Rattle.policy_compile.specs.declared.outcome.Query.{Query}
use Rattle.policy_compile.specs.Meaning.{AnswersAs}
use Rattle.strata.specs.declared.stratum.Strata.{Strata}
use Rattle.strata.specs.declared.stratum.Stratum.{Stratum}
use Rattle.findings.specs.declared.decide.Asked.{Asked}
use Rattle.findings.specs.declared.decide.Asked.TheVariants as asked
use Rattle.findings.specs.declared.region.Region.{Region}
use Rattle.findings.specs.Asked.{IsAskableBeside}
use Rattle.findings.specs.Findings.{HasNobody, LiesInFinding}
use Rattle.findings.specs.RegionQueries.{AsksRegion}
use Rattle.findings.specs.Regions.{LiesInRegion}

-- the request lies in the region, and in one of the findings
pub record IsAllowedInside (schema : Schema) (region : Region) (ds : List Stratum) (fs : List (List ℕ)) (r : Request) : Type 0 where
  pub allowed : LiesInRegion schema region r
  pub inside : Any (LiesInFinding r ds) fs

-- under the answers that a valid request gives its tests, the query's tree holds exactly where the request is such a one
abbrev pub HoldsForInside : Query → Strata → List (List ℕ) → Query → Type 0
HoldsForInside base strata fs q =
    (schema : Schema) (region : Region) → AsksRegion schema region base strata →
    (r : Request) (answers : ℕ → Bool) → IsValid schema r → AnswersAs answers r q.tests →
    (IsTrue (holds answers (tree_of q.formula.value)) ↔ IsAllowedInside schema region strata.dimensions fs r)

-- what the query of those findings says
pub record IsInsideQuery (base : Query) (strata : Strata) (fs : List (List ℕ)) (q : Query) : Type 0 where
  pub inside : HoldsForInside base strata fs q
  pub askable : IsAskableBeside base strata q

-- of whichever region the base is, none of the findings has anybody where that is the answer
abbrev pub ShowsNobody : Schema → Query → Strata → List (List ℕ) → Asked → Type 0
ShowsNobody schema base strata fs answer =
    answer ≡ asked.Nobody → (region : Region) → AsksRegion schema region base strata →
    All (HasNobody schema region strata.dimensions) fs

-- each of the findings is in one of the two lists, which have no others
pub record IsPartedBy (fs : List (List ℕ)) (parts : List (List ℕ) × List (List ℕ)) : Type 0 where
  pub either : (f : List ℕ) → Contains fs f → Contains parts.0 f ⊎ Contains parts.1 f
  pub first : (f : List ℕ) → Contains parts.0 f → Contains fs f
  pub second : (f : List ℕ) → Contains parts.1 f → Contains fs f

-- some of the findings are kept, and each of the others has nobody
pub record KeepsInhabited (schema : Schema) (region : Region) (ds : List Stratum) (fs kept : List (List ℕ)) : Type 0 where
  pub only : (f : List ℕ) → Contains kept f → Contains fs f
  pub others : (f : List ℕ) → Contains fs f → Contains kept f ⊎ HasNobody schema region ds f

-- of whichever region the base is
abbrev pub KeepInhabited : Schema → Query → Strata → List (List ℕ) → List (List ℕ) → Type 0
KeepInhabited schema base strata fs kept =
    (region : Region) → AsksRegion schema region base strata → KeepsInhabited schema region strata.dimensions fs kept

-- A walk down from the finding of every request: what has been looked at, what was found, and what may come next.
use Rattle.std.specs.Prelude.{◌≢◌, ◌⊎◌, ℕ, List, [], ◌∷◌, All, AllPairs, Contains}
use Rattle.policy_model.specs.declared.schema.Schema.{Schema}
use Rattle.policy_model.specs.declared.request.Request.{Request}
use Rattle.strata.specs.declared.stratum.Stratum.{Stratum}
use Rattle.findings.specs.declared.region.Region.{Region}
use Rattle.findings.specs.Findings.{HasNobody, IsFinding, IsIrreducible, IsOwn}
use Rattle.findings.specs.Steps.{IsRightUnder}
use Rattle.findings.specs.Summaries.{MustBeVisited, findings_of}

-- the finding of every request: number 0 in each dimension
abbrev pub first_finding : List Stratum → List ℕ
first_finding [] = []
first_finding (d ∷ ds) = 0 ∷ first_finding ds

-- each finding that this one is right under is in the list
abbrev pub AreAboveIn : List Stratum → List (List ℕ) → List ℕ → Type 0
AreAboveIn ds list f = (g : List ℕ) → IsRightUnder ds f g → Contains list g

-- the finding has been looked at, or may come next, or some finding that it is right under isn't in the list, or it has
-- nobody
abbrev pub IsCared : Schema → Region → List Stratum → (coming looked reducible : List (List ℕ)) → List ℕ → Type 0
IsCared schema region ds coming looked reducible f =
    Contains looked f ⊎ (Contains coming f ⊎ (¬ AreAboveIn ds reducible f ⊎ HasNobody schema region ds f))

-- the finding was looked at, and the request is its own
abbrev pub IsFoundFinding : Schema → Region → List Stratum → List (List ℕ) → List ℕ × Request → Type 0
IsFoundFinding schema region ds looked p = Contains looked p.0 × IsOwn schema region ds p.0 p.1

-- where a walk stands: the findings that may come next, those that were looked at, those of them that have no request of their
-- own, and the others with a request of their own
pub record IsWalk (schema : Schema) (region : Region) (ds : List Stratum) (coming looked reducible : List (List ℕ))
    (found : List (List ℕ × Request)) : Type 0 where
  pub next : (f : List ℕ) → Contains coming f → IsFinding ds f
  pub visited : (f : List ℕ) → Contains looked f → MustBeVisited schema region ds f
  pub different : AllPairs (λ f g. f ≢ g) looked
  pub unmet : (f : List ℕ) → Contains reducible f → Contains looked f × ¬ IsIrreducible schema region ds f
  pub own : All (IsFoundFinding schema region ds looked) found
  pub either : (f : List ℕ) → Contains looked f → Contains reducible f ⊎ Contains (findings_of found) f
  pub cared : (f g : List ℕ) → Contains reducible g → IsRightUnder ds f g → IsCared schema region ds coming looked reducible f
  pub start : Contains looked (first_finding ds) ⊎ Contains coming (first_finding ds)

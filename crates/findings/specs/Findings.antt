-- Findings: one predicate of each dimension, by its number. Which requests lie in them, and which is finer than which.
use Rattle.std.specs.Prelude.{◌≢◌, ◌<◌, ⊤, ℕ, List, [], ◌∷◌, length}
use Rattle.policy_model.specs.declared.request.Request.{Request}
use Rattle.policy_model.specs.declared.schema.Schema.{Schema}
use Rattle.policy_model.specs.Requests.{IsValid}
use Rattle.strata.specs.declared.stratum.Stratum.{Stratum}
use Rattle.strata.specs.Covers.{IsBelowAt, predicate_at}
use Rattle.strata.specs.Predicates.{MeetsPredicate}
use Rattle.findings.specs.declared.region.Region.{Region}
use Rattle.findings.specs.Regions.{LiesInRegion}

-- a finding has for each dimension the number of one of its predicates
abbrev pub IsFinding : List Stratum → List ℕ → Type 0
IsFinding [] [] = ⊤
IsFinding [] (n ∷ f) = ⊥
IsFinding (d ∷ ds) [] = ⊥
IsFinding (d ∷ ds) (n ∷ f) = (n < length d.predicates) × IsFinding ds f

-- the request meets the predicate of each dimension
abbrev pub LiesInFinding : Request → List Stratum → List ℕ → Type 0
LiesInFinding r [] f = ⊤
LiesInFinding r (d ∷ ds) [] = ⊤
LiesInFinding r (d ∷ ds) (n ∷ f) = MeetsPredicate d.slot (predicate_at d.predicates n) r × LiesInFinding r ds f

-- each predicate of the first finding is that of the second, or below it
abbrev pub IsFiner : Schema → List Stratum → List ℕ → List ℕ → Type 0
IsFiner schema [] f g = ⊤
IsFiner schema (d ∷ ds) [] g = ⊤
IsFiner schema (d ∷ ds) (n ∷ f) [] = ⊤
IsFiner schema (d ∷ ds) (n ∷ f) (m ∷ g) = IsBelowAt schema d.slot d.predicates n m × IsFiner schema ds f g

-- and some predicate differs
abbrev pub IsStrictlyFiner : Schema → List Stratum → List ℕ → List ℕ → Type 0
IsStrictlyFiner schema ds f g = IsFiner schema ds f g × (f ≢ g)

-- the request is the finding's own: it is valid, lies in the region and in the finding, and in no strictly finer one
pub record IsOwn (schema : Schema) (region : Region) (ds : List Stratum) (f : List ℕ) (r : Request) : Type 0 where
  pub valid : IsValid schema r
  pub allowed : LiesInRegion schema region r
  pub lies : LiesInFinding r ds f
  pub no_finer : (g : List ℕ) → IsFinding ds g → IsStrictlyFiner schema ds g f → ¬ LiesInFinding r ds g

-- some request is the finding's own
abbrev pub IsIrreducible : Schema → Region → List Stratum → List ℕ → Type 0
IsIrreducible schema region ds f = (r : Request) × IsOwn schema region ds f r

-- no irreducible finding is strictly above this one
abbrev pub HasNoneAbove : Schema → Region → List Stratum → List ℕ → Type 0
HasNoneAbove schema region ds f =
    (g : List ℕ) → IsFinding ds g → IsStrictlyFiner schema ds f g → ¬ IsIrreducible schema region ds g

-- the finding has nobody: no valid request of the region lies in it
abbrev pub HasNobody : Schema → Region → List Stratum → List ℕ → Type 0
HasNobody schema region ds f = (r : Request) → IsValid schema r → LiesInRegion schema region r → ¬ LiesInFinding r ds f

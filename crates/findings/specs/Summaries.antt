-- Summaries: the irreducible findings that have no irreducible one above them, each with a request of its own.
use Rattle.std.specs.Prelude.{◌≡◌, ◌≢◌, ◌+◌, ℕ, List, length, map, All, AllPairs, Contains}
use Rattle.std.specs.Cmp.Lexicographic.{slice_cmp}
use Rattle.std.specs.List.Sorted.{IsStrictlySortedBy}
use Rattle.std.specs.Ordering.{nat_cmp}
use Rattle.policy_model.specs.declared.request.Request.{Request}
use Rattle.policy_model.specs.declared.schema.Schema.{Schema}
use Rattle.strata.specs.declared.stratum.Stratum.{Stratum}
use Rattle.findings.specs.declared.region.Region.{Region}
use Rattle.findings.specs.Findings.{HasNoneAbove, IsFinding, IsIrreducible, IsOwn}

-- an irreducible finding that has no irreducible one strictly above
pub record IsMaximal (schema : Schema) (region : Region) (ds : List Stratum) (f : List ℕ) : Type 0 where
  pub finding : IsFinding ds f
  pub irreducible : IsIrreducible schema region ds f
  pub none_above : HasNoneAbove schema region ds f

-- the findings of a list with their requests
abbrev pub findings_of : List (List ℕ × Request) → List (List ℕ)
findings_of summary = map (λ p. p.0) summary

-- the maximal irreducible findings and no others, in the order of their numbers, each with a request of its own
pub record IsSummary (schema : Schema) (region : Region) (ds : List Stratum) (summary : List (List ℕ × Request)) : Type 0 where
  pub own : All (λ p. IsOwn schema region ds p.0 p.1) summary
  pub maximal : All (IsMaximal schema region ds) (findings_of summary)
  pub all : (f : List ℕ) → IsMaximal schema region ds f → Contains (findings_of summary) f
  pub order : IsStrictlySortedBy (slice_cmp nat_cmp) (findings_of summary)

-- a finding that must be looked at: no irreducible one is strictly above, whether it is irreducible itself or not
pub record MustBeVisited (schema : Schema) (region : Region) (ds : List Stratum) (f : List ℕ) : Type 0 where
  pub finding : IsFinding ds f
  pub none_above : HasNoneAbove schema region ds f

-- so many different findings must be looked at
pub record VisitsAtLeast (schema : Schema) (region : Region) (ds : List Stratum) (n : ℕ) : Type 0 where
  pub listed : List (List ℕ)
  pub count : length listed ≡ n
  pub different : AllPairs (λ f g. f ≢ g) listed
  pub each : All (MustBeVisited schema region ds) listed

-- exactly so many
pub record VisitsExactly (schema : Schema) (region : Region) (ds : List Stratum) (n : ℕ) : Type 0 where
  pub least : VisitsAtLeast schema region ds n
  pub most : ¬ VisitsAtLeast schema region ds (n + 1)

-- Lists of findings with requests that stand for a region, and the first pair that keeps a list from it.
use Rattle.std.specs.Prelude.{◌≡◌, ◌≢◌, ◌⊎◌, ◌<◌, ◌+◌, ℕ, List, All, Any, Contains, Some, slice_get}
use Rattle.std.specs.Cmp.Lexicographic.{slice_cmp}
use Rattle.std.specs.List.Sorted.{IsStrictlySortedBy}
use Rattle.std.specs.Ordering.{nat_cmp}
use Rattle.std.specs.declared.cmp.Ordering.TheVariants.{Less}
use Rattle.policy_model.specs.declared.request.Request.{Request}
use Rattle.policy_model.specs.declared.schema.Schema.{Schema}
use Rattle.policy_compile.specs.declared.outcome.Query.{Query}
use Rattle.strata.specs.declared.stratum.Strata.{Strata}
use Rattle.strata.specs.declared.stratum.Stratum.{Stratum}
use Rattle.findings.specs.declared.region.Region.{Region}
use Rattle.findings.specs.declared.standing.SummaryVerdict.{SummaryVerdict}
use Rattle.findings.specs.declared.standing.SummaryVerdict.TheVariants.{Stands, Fails}
use Rattle.findings.specs.Findings.{IsOwn, IsStrictlyFiner}
use Rattle.findings.specs.Queries.{AreMadeFor}
use Rattle.findings.specs.Summaries.{findings_of}

-- the list stands for the region: the findings are in the order of their numbers, each once; the request beside each is its own; and
-- none is finer than another
pub record SummaryStands (schema : Schema) (region : Region) (ds : List Stratum) (pairs : List (List ℕ × Request)) : Type 0 where
  pub rise : IsStrictlySortedBy (slice_cmp nat_cmp) (findings_of pairs)
  pub own : All (λ p. IsOwn schema region ds p.0 p.1) pairs
  pub flat : (f g : List ℕ) → Contains (findings_of pairs) f → Contains (findings_of pairs) g → ¬ IsStrictlyFiner schema ds f g

-- of the two findings one is strictly finer than the other
abbrev pub AreComparable : Schema → List Stratum → List ℕ → List ℕ → Type 0
AreComparable schema ds f g = IsStrictlyFiner schema ds f g ⊎ IsStrictlyFiner schema ds g f

-- the finding of this index isn't behind that of the pair before it in the order of numbers
pub record DoesNotRise (pairs : List (List ℕ × Request)) (i : ℕ) (f : List ℕ) : Type 0 where
  pub index : ℕ
  pub next : i ≡ index + 1
  pub before : List ℕ × Request
  pub at : slice_get pairs index ≡ Some before
  pub falls : slice_cmp nat_cmp before.0 f ≢ Less

-- why the pair of this index keeps the list from standing: its request isn't its finding's own, its finding isn't behind that of the
-- pair before it in the order of numbers, or it is comparable to another one
abbrev pub HasFault : Schema → Region → List Stratum → List (List ℕ × Request) → ℕ → List ℕ × Request → Type 0
HasFault schema region ds pairs i p =
    (¬ IsOwn schema region ds p.0 p.1) ⊎ (DoesNotRise pairs i p.0 ⊎ Any (AreComparable schema ds p.0) (findings_of pairs))

-- the pair of this index does
pub record IsFailingPair (schema : Schema) (region : Region) (ds : List Stratum) (pairs : List (List ℕ × Request)) (i : ℕ) : Type 0 where
  pub pair : List ℕ × Request
  pub at : slice_get pairs i ≡ Some pair
  pub fault : HasFault schema region ds pairs i pair

-- and no pair before it
pub record IsFirstFailing (schema : Schema) (region : Region) (ds : List Stratum) (pairs : List (List ℕ × Request)) (i : ℕ) : Type 0 where
  pub failing : IsFailingPair schema region ds pairs i
  pub first : (j : ℕ) → j < i → ¬ IsFailingPair schema region ds pairs j

-- the list stands for the region, or its first failing pair
abbrev pub IsSummaryVerdict : Schema → Region → List Stratum → List (List ℕ × Request) → SummaryVerdict → Type 0
IsSummaryVerdict schema region ds pairs Stands = SummaryStands schema region ds pairs
IsSummaryVerdict schema region ds pairs (Fails place) = IsFirstFailing schema region ds pairs place

-- for whichever region the strata are
abbrev pub JudgesSummary : Schema → Query → Strata → List (List ℕ × Request) → SummaryVerdict → Type 0
JudgesSummary schema base strata pairs verdict =
    (region : Region) → AreMadeFor schema region base strata → IsSummaryVerdict schema region strata.dimensions pairs verdict

-- What the steps of a summary's check tell.
use Rattle.std.specs.Prelude.{◌≡◌, ◌≤◌, ◌<◌, ◌+◌, ◌↔◌, ◌⊎◌, ℕ, Bool, false, List, All, IsTrue, MatchBool, if◌then◌else◌, nat_lt, Some, slice_get, slice_index_or, length}
use Rattle.std.specs.Cmp.Lexicographic.{slice_cmp}
use Rattle.std.specs.Ordering.{nat_cmp}
use Rattle.std.specs.declared.cmp.Ordering.TheVariants.{Less}
use Rattle.policy_model.specs.declared.request.Request.{Request}
use Rattle.policy_model.specs.declared.schema.Schema.{Schema}
use Rattle.policy_model.specs.declared.test.Test.{Test}
use Rattle.policy_model.specs.Requests.{IsValid}
use Rattle.policy_compile.specs.declared.outcome.Query.{Query}
use Rattle.policy_compile.specs.Meaning.{AnswersAs}
use Rattle.strata.specs.declared.stratum.Strata.{Strata}
use Rattle.strata.specs.declared.stratum.Stratum.{Stratum}
use Rattle.strata.specs.Strata.{IsStratum}
use Rattle.findings.specs.declared.region.Region.{Region}
use Rattle.findings.specs.declared.standing.SummaryVerdict.{SummaryVerdict}
use Rattle.findings.specs.declared.standing.SummaryVerdict.TheVariants.{Stands, Fails}
use Rattle.findings.specs.Findings.{IsFiner, IsOwn}
use Rattle.findings.specs.Queries.{AreMadeFor}
use Rattle.findings.specs.RegionQueries.{AsksRegion, IsRegionQuery}
use Rattle.findings.specs.Regions.{LiesInRegion}
use Rattle.findings.specs.StandingSummaries.{AreComparable, DoesNotRise}

-- the answer to the test of a number, or no where there is none
abbrev pub nth_answer : List Bool → ℕ → Bool
nth_answer answers n = slice_index_or answers n false

-- the answers that the request gives the tests, in their order
pub record AreAnswersOf (r : Request) (tests : List Test) (answers : List Bool) : Type 0 where
  pub count : length answers ≡ length tests
  pub says : AnswersAs (nth_answer answers) r tests

-- whether the valid request lies in the region, whichever the query is of
abbrev pub DecidesAllowed : Query → Request → Bool → Type 0
DecidesAllowed base r b =
    (schema : Schema) (region : Region) → IsRegionQuery schema region base → IsValid schema r →
    (IsTrue b ↔ LiesInRegion schema region r)

-- whether the request is the finding's own, for whichever region the strata are
abbrev pub DecidesOwn : Schema → Query → Strata → List ℕ → Request → Bool → Type 0
DecidesOwn schema base strata f r b =
    (region : Region) → AreMadeFor schema region base strata → (IsTrue b ↔ IsOwn schema region strata.dimensions f r)

-- the same for whichever region the base is a query of
abbrev pub DecidesOwnBy : Schema → Query → Strata → List ℕ → Request → Bool → Type 0
DecidesOwnBy schema base strata f r b =
    (region : Region) → AsksRegion schema region base strata → (IsTrue b ↔ IsOwn schema region strata.dimensions f r)

-- under whichever schema the request is valid
abbrev pub DecidesOwnIfValid : Query → Strata → List ℕ → Request → Bool → Type 0
DecidesOwnIfValid base strata f r b = (schema : Schema) → IsValid schema r → DecidesOwnBy schema base strata f r b

-- a fact on the order of the strata, under whichever schema and of whichever tests they are
abbrev pub EachOrder : Strata → (Schema → Type 0) → Type 0
EachOrder strata P = (schema : Schema) (tests : List Test) → All (IsStratum schema tests) strata.dimensions → P schema

-- whether the one finding is finer than the other, or the same
abbrev pub DecidesFiner : Strata → List ℕ → List ℕ → Bool → Type 0
DecidesFiner strata f g b = EachOrder strata (λ schema. IsTrue b ↔ IsFiner schema strata.dimensions f g)

-- whether one of the two is strictly finer than the other
abbrev pub DecidesComparable : Strata → List ℕ → List ℕ → Bool → Type 0
DecidesComparable strata f g b = EachOrder strata (λ schema. IsTrue b ↔ AreComparable schema strata.dimensions f g)

-- the finding of some pair is strictly finer than this one, or strictly above it
pub record IsComparedWith (schema : Schema) (ds : List Stratum) (f : List ℕ) (pairs : List (List ℕ × Request)) : Type 0 where
  pub index : ℕ
  pub other : List ℕ × Request
  pub at : slice_get pairs index ≡ Some other
  pub compared : AreComparable schema ds f other.0

-- the finding rises above that of the pair before this index, where there is one
abbrev pub RisesAbove : List (List ℕ × Request) → ℕ → List ℕ → Type 0
RisesAbove pairs i f =
    (j : ℕ) (q : List ℕ × Request) → i ≡ j + 1 → slice_get pairs j ≡ Some q → slice_cmp nat_cmp q.0 f ≡ Less

-- whether the finding of this index rises above that of the pair before it
abbrev pub Rises : List (List ℕ × Request) → ℕ → Bool → Type 0
Rises pairs i b =
    (p : List ℕ × Request) → slice_get pairs i ≡ Some p →
    MatchBool b (RisesAbove pairs i p.0) (DoesNotRise pairs i p.0)

-- the request of the pair of this index is its finding's own, and its finding rises above that of the pair before it
pub record StandsAlone (schema : Schema) (region : Region) (ds : List Stratum) (pairs : List (List ℕ × Request)) (i : ℕ)
    (p : List ℕ × Request) : Type 0 where
  pub own : IsOwn schema region ds p.0 p.1
  pub rises : RisesAbove pairs i p.0

-- one of the two isn't so
abbrev pub FailsAlone : Schema → Region → List Stratum → List (List ℕ × Request) → ℕ → List ℕ × Request → Type 0
FailsAlone schema region ds pairs i p = (¬ IsOwn schema region ds p.0 p.1) ⊎ DoesNotRise pairs i p.0

-- whether the pair of this index stands alone, for whichever region the strata are
abbrev pub DecidesAlone : Schema → Query → Strata → List (List ℕ × Request) → ℕ → Bool → Type 0
DecidesAlone schema base strata pairs i b =
    (region : Region) (p : List ℕ × Request) → AreMadeFor schema region base strata → slice_get pairs i ≡ Some p →
    MatchBool b (StandsAlone schema region strata.dimensions pairs i p) (FailsAlone schema region strata.dimensions pairs i p)

-- the first n pairs stand alone
abbrev pub StandAlone : Schema → Query → Strata → List (List ℕ × Request) → ℕ → Type 0
StandAlone schema base strata pairs n =
    (region : Region) (i : ℕ) (p : List ℕ × Request) → AreMadeFor schema region base strata → i < n → slice_get pairs i ≡ Some p →
    StandsAlone schema region strata.dimensions pairs i p

-- this is the first pair that doesn't, or the number of the pairs
pub record IsFirstAlone (schema : Schema) (base : Query) (strata : Strata) (pairs : List (List ℕ × Request)) (n : ℕ) : Type 0 where
  pub within : n ≤ length pairs
  pub before : StandAlone schema base strata pairs n
  pub here : (region : Region) (p : List ℕ × Request) → AreMadeFor schema region base strata → slice_get pairs n ≡ Some p →
      FailsAlone schema region strata.dimensions pairs n p

-- the verdict where this is the first failing pair, or the number of the pairs
abbrev pub verdict_at : ℕ → ℕ → SummaryVerdict
verdict_at first count = (if nat_lt first count then Fails first else Stands)

-- none of the pairs behind index i and before index n has a finding that is strictly finer than this one or strictly above it
abbrev pub IsApartBetween : Schema → List Stratum → List ℕ → List (List ℕ × Request) → ℕ → ℕ → Type 0
IsApartBetween schema ds f pairs i n =
    (j : ℕ) (q : List ℕ × Request) → i < j → j < n → slice_get pairs j ≡ Some q → ¬ AreComparable schema ds f q.0

-- whether the finding of this index is comparable to one behind it
abbrev pub DecidesComparedBehind : Strata → List (List ℕ × Request) → ℕ → Bool → Type 0
DecidesComparedBehind strata pairs i b = EachOrder strata (λ schema. (p : List ℕ × Request) → slice_get pairs i ≡ Some p →
    MatchBool b (IsComparedWith schema strata.dimensions p.0 pairs) (IsApartBetween schema strata.dimensions p.0 pairs i (length pairs)))

-- this is the first of so many pairs with a finding that is strictly finer than one of the list or strictly above one, or so many
pub record IsFirstCompared (strata : Strata) (pairs : List (List ℕ × Request)) (most first : ℕ) : Type 0 where
  pub within : first ≤ most
  pub before : EachOrder strata (λ schema. (i : ℕ) (p : List ℕ × Request) → i < first → slice_get pairs i ≡ Some p →
      ¬ IsComparedWith schema strata.dimensions p.0 pairs)
  pub here : EachOrder strata (λ schema. (p : List ℕ × Request) → first < most → slice_get pairs first ≡ Some p →
      IsComparedWith schema strata.dimensions p.0 pairs)

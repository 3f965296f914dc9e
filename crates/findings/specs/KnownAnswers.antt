-- What predicates plainly say of a query's tests: answers that each request gives that meets a predicate, or misses it.
use Rattle.std.specs.Prelude.{◌≡◌, ◌⊎◌, ◌<◌, ℕ, Bool, true, false, List, [], Contains, MatchBool, Some, length, slice_get, slice_index_or}
use Rattle.formula_tree.specs.Answers.{Answers, answer_of}
use Rattle.policy_model.specs.declared.request.Request.{Request}
use Rattle.policy_model.specs.declared.schema.Schema.{Schema}
use Rattle.policy_model.specs.declared.test.Slot.{Slot}
use Rattle.policy_model.specs.declared.test.Test.{Test}
use Rattle.policy_model.specs.Requests.{IsValid}
use Rattle.policy_model.specs.Tests.{TestHolds}
use Rattle.policy_compile.specs.declared.outcome.Query.{Query}
use Rattle.slot_theory.specs.Possible.{AnswersPath}
use Rattle.strata.specs.declared.predicate.Predicate.{Predicate}
use Rattle.strata.specs.declared.stratum.Strata.{Strata}
use Rattle.strata.specs.declared.stratum.Stratum.{Stratum}
use Rattle.strata.specs.Covers.{predicate_at}
use Rattle.strata.specs.Predicates.{MeetsPredicate}
use Rattle.findings.specs.declared.known.KnownAnswers.{KnownAnswers}
use Rattle.findings.specs.Queries.{numbers_below}
use Rattle.findings.specs.RegionQueries.{SaysAsMuch}
use Rattle.findings.specs.Steps.{predicate_number_at}

-- the request meets the predicate, or misses it
abbrev pub MeetsOrMisses : Bool → Slot → Predicate → Request → Type 0
MeetsOrMisses met s p r = MatchBool met (MeetsPredicate s p r) (¬ MeetsPredicate s p r)

-- the request passes the test, or fails it
abbrev pub PassesOrFails : Bool → Test → Request → Type 0
PassesOrFails passed t r = MatchBool passed (TestHolds r t) (¬ TestHolds r t)

-- each valid request that passes the one test, or fails it, passes or fails the other, as the answer says
abbrev pub AnswersOther : Schema → Test → Bool → Test → Bool → Type 0
AnswersOther schema one passed other answer =
    (r : Request) → IsValid schema r → PassesOrFails passed one r → PassesOrFails answer other r

-- each valid request that passes the test, or fails it, answers the path
abbrev pub AnswersTests : Schema → Test → Bool → List Test → Answers → Type 0
AnswersTests schema one passed tests path =
    (r : Request) → IsValid schema r → PassesOrFails passed one r → AnswersPath tests path r

-- each valid request that meets the predicate, or misses it, answers the path
abbrev pub AreGivenByEach : Schema → Bool → Slot → Predicate → List Test → Answers → Type 0
AreGivenByEach schema met s p tests path =
    (r : Request) → IsValid schema r → MeetsOrMisses met s p r → AnswersPath tests path r

-- for each predicate of a dimension such answers
abbrev pub AreGivenInDimension : Schema → Bool → Stratum → List Test → List Answers → Type 0
AreGivenInDimension schema met d tests paths =
    (n : ℕ) → AreGivenByEach schema met d.slot (predicate_at d.predicates n) tests (slice_index_or paths n [])

-- for each dimension
abbrev pub IsAnswerTable : Schema → Bool → List Stratum → List Test → List (List Answers) → Type 0
IsAnswerTable schema met ds tests table =
    (i : ℕ) (d : Stratum) → slice_get ds i ≡ Some d → AreGivenInDimension schema met d tests (slice_index_or table i [])

-- for the predicates that are met such answers to what is left of a query
abbrev pub IsMetTable : Schema → Strata → KnownAnswers → Type 0
IsMetTable schema strata known = IsAnswerTable schema true strata.dimensions known.less.query.tests known.met

-- a query that says as much as the base, and such answers for the predicates that are met and for those that are missed
pub record AreKnownAnswers (schema : Schema) (base : Query) (strata : Strata) (known : KnownAnswers) : Type 0 where
  pub less : SaysAsMuch schema base known.less.query
  pub met : IsMetTable schema strata known
  pub missed : IsAnswerTable schema false strata.dimensions known.less.query.tests known.missed

-- the answers of the predicate of a number
abbrev pub answers_in : List (List Answers) → ℕ → ℕ → Answers
answers_in table i n = slice_index_or (slice_index_or table i []) n []

-- each answer is an old one or this one
abbrev pub AddsTestAnswer : Answers → ℕ → Bool → Answers → Type 0
AddsTestAnswer old test answer new =
    (n : ℕ) (b : Bool) → answer_of new n ≡ Some b → (answer_of old n ≡ Some b) ⊎ ((n ≡ test) × (b ≡ answer))

-- or one of the other path
abbrev pub JoinsAnswers : Answers → Answers → Answers → Type 0
JoinsAnswers old more new =
    (n : ℕ) (b : Bool) → answer_of new n ≡ Some b → (answer_of old n ≡ Some b) ⊎ (answer_of more n ≡ Some b)

-- the answer is said of the finding's predicate in some dimension
pub record ComesFromMet (known : KnownAnswers) (f : List ℕ) (n : ℕ) (b : Bool) : Type 0 where
  pub dimension : ℕ
  pub inside : dimension < length f
  pub has : answer_of (answers_in known.met dimension (predicate_number_at f dimension)) n ≡ Some b

-- each answer is
abbrev pub AreInsideAnswers : KnownAnswers → List ℕ → Answers → Type 0
AreInsideAnswers known f path = (n : ℕ) (b : Bool) → answer_of path n ≡ Some b → ComesFromMet known f n b

-- the answer is said of a predicate of the dimension that is missed, and is maximal strictly below the finding's
pub record ComesFromFiner (known : KnownAnswers) (d : Stratum) (f : List ℕ) (i n : ℕ) (b : Bool) : Type 0 where
  pub lower : ℕ
  pub among : Contains (numbers_below d (predicate_number_at f i)) lower
  pub has : answer_of (answers_in known.missed i lower) n ≡ Some b

-- each answer is an old one or such a one
abbrev pub AddsFinerAt : KnownAnswers → Stratum → List ℕ → ℕ → Answers → Answers → Type 0
AddsFinerAt known d f i old new =
    (n : ℕ) (b : Bool) → answer_of new n ≡ Some b → (answer_of old n ≡ Some b) ⊎ ComesFromFiner known d f i n b

-- in some dimension
pub record ComesFromMissed (known : KnownAnswers) (ds : List Stratum) (f : List ℕ) (n : ℕ) (b : Bool) : Type 0 where
  pub dimension : ℕ
  pub stratum : Stratum
  pub at : slice_get ds dimension ≡ Some stratum
  pub finer : ComesFromFiner known stratum f dimension n b

-- each answer is said of the finding's predicates, or of some that are missed right below them
abbrev pub AreOwnAnswers : KnownAnswers → List Stratum → List ℕ → Answers → Type 0
AreOwnAnswers known ds f path =
    (n : ℕ) (b : Bool) → answer_of path n ≡ Some b → ComesFromMet known f n b ⊎ ComesFromMissed known ds f n b

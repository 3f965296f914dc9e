-- What the parts of a finding's query ask, and what is answered on it.
use Rattle.std.specs.Prelude.{◌≡◌, ◌↔◌, ◌++◌, ◌∷◌, [], ℕ, Bool, List, IsTrue, Option, Some, None}
use Rattle.formula_tree.specs.Trees.{Tree}
use Rattle.formula_tree.specs.Values.{holds}
use Rattle.policy_model.specs.declared.request.Request.{Request}
use Rattle.policy_model.specs.declared.schema.Schema.{Schema}
use Rattle.policy_model.specs.declared.test.Test.{Test}
use Rattle.policy_model.specs.Requests.{IsValid}
use Rattle.policy_compile.specs.declared.outcome.Query.{Query}
use Rattle.policy_compile.specs.Meaning.{AnswersAs}
use Rattle.policy_compile.specs.Plans.{Plan, all, of_plans}
use Rattle.policy_compile.specs.Queries.{IsQuery, asked_tree}
use Rattle.strata.specs.declared.stratum.Strata.{Strata}
use Rattle.strata.specs.declared.stratum.Stratum.{Stratum}
use Rattle.findings.specs.declared.decide.Asked.{Asked}
use Rattle.findings.specs.declared.decide.Asked.TheVariants as asked
use Rattle.findings.specs.declared.region.Region.{Region}
use Rattle.findings.specs.Answers.{SplitsFail, StatesFail}
use Rattle.findings.specs.Asked.{AreAsked, IsAskableBeside, IsAsked, no_finer_plan}
use Rattle.findings.specs.Findings.{IsIrreducible, IsOwn}
use Rattle.findings.specs.Queries.{AreMadeFor, IsFindingQuery, finding_plan, finding_plans, own_plans}
use Rattle.findings.specs.RegionQueries.{AsksRegion}
use Rattle.findings.specs.Regions.{region_plan}

-- of whichever region the query is, the parts of the finding's query are asked, before which there were no tests
abbrev pub ArePartsAsked : Query → List Stratum → List ℕ → List Test → List Tree → Type 0
ArePartsAsked base ds f tests trees =
    (allowed : Plan) → IsQuery allowed base → AreAsked [] tests (finding_plans allowed ds f) [] trees

-- and so is the whole
abbrev pub IsWholeAsked : Query → List Stratum → List ℕ → List Test → Tree → Type 0
IsWholeAsked base ds f tests t =
    (allowed : Plan) → IsQuery allowed base → IsAsked [] tests (finding_plan allowed ds f) t

-- that a request lies in the finding and in no finer one
abbrev pub lying_plan : List Stratum → List ℕ → Plan
lying_plan ds f = all (of_plans (own_plans ds f ++ no_finer_plan ds f ∷ []))

-- of whichever region the query is, the request is the finding's own
abbrev pub IsOwnOf : Schema → Query → Strata → List ℕ → Request → Type 0
IsOwnOf schema q strata f r = (region : Region) → AsksRegion schema region q strata → IsOwn schema region strata.dimensions f r

-- under the answers that a valid request gives its tests, the query's tree holds exactly where the request is the finding's own, of
-- whichever region the base is; and it may be asked
pub record IsOwnQuery (base : Query) (strata : Strata) (f : List ℕ) (q : Query) : Type 0 where
  pub own : (schema : Schema) (region : Region) → AsksRegion schema region base strata →
      (r : Request) (answers : ℕ → Bool) → IsValid schema r → AnswersAs answers r q.tests →
      (IsTrue (holds answers (asked_tree q)) ↔ IsOwn schema region strata.dimensions f r)
  pub askable : IsAskableBeside base strata q

-- a request of the finding's own, or that it has none
abbrev pub TellsWhose : Schema → Region → List Stratum → List ℕ → Asked → Type 0
TellsWhose schema region ds f (asked.Met r) = IsOwn schema region ds f r
TellsWhose schema region ds f asked.Nobody = ¬ IsIrreducible schema region ds f
TellsWhose schema region ds f asked.OutOfSplits = ⊥
TellsWhose schema region ds f (asked.OutOfStates w) = ⊥

-- of whichever region the query is
abbrev pub IsOwnTold : Schema → Query → Strata → List ℕ → Asked → Type 0
IsOwnTold schema q strata f answer =
    (region : Region) → AsksRegion schema region q strata → TellsWhose schema region strata.dimensions f answer

-- of the finding's query this holds
pub record SomeFindingQuery (schema : Schema) (region : Region) (ds : List Stratum) (f : List ℕ) (P : Query → Type 0) : Type 0 where
  pub query : Query
  pub is : IsFindingQuery (region_plan schema region) ds f query
  pub holds : P query

-- whose the finding is: a request of its own; that it has none; or that a number is too small for its query
abbrev pub DecidesWhose : Schema → Region → List Stratum → (splits states : ℕ) → List ℕ → Asked → Type 0
DecidesWhose schema region ds splits states f (asked.Met r) = IsOwn schema region ds f r
DecidesWhose schema region ds splits states f asked.Nobody = ¬ IsIrreducible schema region ds f
DecidesWhose schema region ds splits states f asked.OutOfSplits = SomeFindingQuery schema region ds f (λ q. SplitsFail schema q splits)
DecidesWhose schema region ds splits states f (asked.OutOfStates w) = SomeFindingQuery schema region ds f (λ q. StatesFail schema q states w)

-- of whichever region the strata are
abbrev pub IsOwnAnswered : Schema → (splits states : ℕ) → Query → Strata → List ℕ → Asked → Type 0
IsOwnAnswered schema splits states base strata f answer =
    (region : Region) → AreMadeFor schema region base strata → DecidesWhose schema region strata.dimensions splits states f answer

-- the answer itself, where it tells whose the finding is
abbrev pub IsToldOf : Asked → Option Asked → Type 0
IsToldOf (asked.Met r) told = told ≡ Some (asked.Met r)
IsToldOf asked.Nobody told = told ≡ Some asked.Nobody
IsToldOf asked.OutOfSplits told = told ≡ None
IsToldOf (asked.OutOfStates w) told = told ≡ None

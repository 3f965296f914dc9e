-- What the steps of making a finding's query leave, and what the query says.
use Rattle.std.specs.Prelude.{◌≡◌, ◌↔◌, ◌<◌, ◌^◌, ◌++◌, ◌∷◌, [], ℕ, Bool, List, IsTrue, Some, length, slice_get, slice_index}
use Rattle.std.specs.Global.{Global}
use Rattle.std.specs.declared.rc.Rc.{Rc}
use Rattle.formula_tree.specs.Trees.{Tree, of_list, tree_of}
use Rattle.formula_tree.specs.Trees as tree
use Rattle.formula_tree.specs.Values.{holds}
use Rattle.formula_tree.specs.declared.formula.Formula.{Formula}
use Rattle.policy_model.specs.declared.request.Request.{Request}
use Rattle.policy_model.specs.declared.schema.Schema.{Schema}
use Rattle.policy_model.specs.declared.test.Test.{Test}
use Rattle.policy_model.specs.Requests.{IsValid}
use Rattle.policy_compile.specs.declared.outcome.Query.{Query}
use Rattle.policy_compile.specs.Meaning.{AnswersAs}
use Rattle.policy_compile.specs.Numbering.{AreNumbered as AreTestsNumbered, Collects, IsNumbered}
use Rattle.policy_compile.specs.Plans.{Plan, not, of_plans, one_of, tests_in, tests_in_each}
use Rattle.policy_compile.specs.Queries.{IsQuery, asked_tree}
use Rattle.strata.specs.declared.stratum.Strata.{Strata}
use Rattle.strata.specs.declared.stratum.Stratum.{Stratum}
use Rattle.findings.specs.declared.region.Region.{Region}
use Rattle.findings.specs.Answers.{QueryIsAskable}
use Rattle.findings.specs.Findings.{IsOwn}
use Rattle.findings.specs.Queries.{AreMadeFor, IsFindingQuery, finer_plans}
use Rattle.findings.specs.RegionQueries.{AsksRegion}
use Rattle.findings.specs.Renumbering.{renumbered_tree}

-- after the old tests the test was read, and has this number
pub record HasTestNumber (old new : List Test) (t : Test) (n : ℕ) : Type 0 where
  pub collects : Collects old (t ∷ []) new
  pub at : slice_get new n ≡ Some t

-- after the old tests those of the plan were read, and the tree is the plan with their numbers
pub record IsAsked (old new : List Test) (p : Plan) (t : Tree) : Type 0 where
  pub collects : Collects old (tests_in p) new
  pub numbered : IsNumbered new p t

-- the same of several plans, whose trees were added
pub record AreAsked (old new : List Test) (ps : List Plan) (before after : List Tree) : Type 0 where
  pub collects : Collects old (tests_in_each (of_plans ps)) new
  pub more : List Tree
  pub is : after ≡ before ++ more
  pub numbered : AreTestsNumbered new (of_plans ps) (of_list more)

-- that no predicate of a dimension that is maximal strictly below that of the finding holds
abbrev pub no_finer_plan : List Stratum → List ℕ → Plan
no_finer_plan ds f = not (one_of (of_plans (finer_plans ds f)))

-- after the old tests these were read, and these are their numbers
pub record AreNumbersOf (old new : List Test) (tests : List Test) (numbers : List ℕ) : Type 0 where
  pub collects : Collects old tests new
  pub count : length numbers ≡ length tests
  pub each : (i : ℕ) (t : Test) → slice_get tests i ≡ Some t → slice_get new (slice_index numbers i) ≡ Some t

-- after the old tests those of the query were read, and the tree is the query's with their numbers
pub record IsRenumbered (old new : List Test) (q : Query) (t : Tree) : Type 0 where
  pub numbers : List ℕ
  pub are : AreNumbersOf old new q.tests numbers
  pub tree : t ≡ renumbered_tree numbers (asked_tree q)

-- the tree is that this one holds, and behind it the query's
pub record StandsBeside (old new : List Test) (one : Tree) (q : Query) (t : Tree) : Type 0 where
  pub other : Tree
  pub renumbered : IsRenumbered old new q other
  pub is : t ≡ tree.all (tree.more one (tree.more other tree.none))

-- the query is that the plan holds, before which there were no tests, and behind it the base
pub record AsksBoth (p : Plan) (base q : Query) : Type 0 where
  pub first : List Test
  pub one : Tree
  pub asked : IsAsked [] first p one
  pub beside : StandsBeside first q.tests one base (asked_tree q)
  pub few : length q.tests < 2 ^ 32

-- of whichever plan the query is, it is asked
abbrev pub AsksBase : List Test → List Test → Query → Rc Formula Global → Type 0
AsksBase old new base f = (allowed : Plan) → IsQuery allowed base → IsAsked old new allowed (tree_of f.value)

-- of whichever region the query is, the finding's query is that of its plan
abbrev pub AsksOwn : Query → List Stratum → List ℕ → Query → Type 0
AsksOwn base ds f q = (allowed : Plan) → IsQuery allowed base → IsFindingQuery allowed ds f q

-- under the answers that a valid request gives its tests, its tree holds exactly where the request is the finding's own
abbrev pub HoldsForOwn : Query → Strata → List ℕ → Query → Type 0
HoldsForOwn base strata f q =
    (schema : Schema) (region : Region) → AreMadeFor schema region base strata →
    (r : Request) (answers : ℕ → Bool) → IsValid schema r → AnswersAs answers r q.tests →
    (IsTrue (holds answers (tree_of q.formula.value)) ↔ IsOwn schema region strata.dimensions f r)

-- the query may be asked of whoever answers for the schema
abbrev pub IsAskableFor : Query → Strata → Query → Type 0
IsAskableFor base strata q =
    (schema : Schema) (region : Region) → AreMadeFor schema region base strata → QueryIsAskable schema q

-- the same where the base is a query of the region
abbrev pub IsAskableBeside : Query → Strata → Query → Type 0
IsAskableBeside base strata q =
    (schema : Schema) (region : Region) → AsksRegion schema region base strata → QueryIsAskable schema q

-- whichever region the strata are of
abbrev pub IsAskableOver : Strata → Query → Type 0
IsAskableOver strata q = (base : Query) → IsAskableFor base strata q

-- What a comparison of two sets says: whether a first set of policies allows a request that a second doesn't.
use Rattle.std.specs.Prelude.{◌≡◌, ◌≢◌, ◌≤◌, ℕ, [], length}
use Rattle.formula_tree.specs.Answers.{Answers}
use Rattle.formula_tree.specs.Nodes.{IsNode}
use Rattle.formula_tree.specs.Runs.{NeedsMore}
use Rattle.formula_tree.specs.Values.{value}
use Rattle.formula_tree.specs.declared.value.Three.TheVariants.{No}
use Rattle.wildcard_lang.specs.Places.{IsWider}
use Rattle.policy_model.specs.declared.request.Request.{Request}
use Rattle.policy_model.specs.declared.schema.Schema.{Schema}
use Rattle.policy_model.specs.declared.test.Slot.{Slot}
use Rattle.policy_model.specs.Requests.{HasValidRequest, IsValid}
use Rattle.policy_model.specs.Sets.{Allows}
use Rattle.policy_compile.specs.declared.outcome.Query.{Query}
use Rattle.policy_compile.specs.Numbering.{HasTooMany}
use Rattle.policy_compile.specs.Plans.{Plan, tests_in}
use Rattle.policy_compile.specs.Queries.{HasTooManyPieces, IsQuery, asked_tree}
use Rattle.policy_compile.specs.Sets.{query_plan}
use Rattle.slot_theory.specs.Possible.{IsPossible}
use Rattle.slot_theory.specs.Cores.{HasTest}
use Rattle.slot_theory.specs.Slots.{patterns_at}
use Rattle.tree_search.specs.declared.outcome.Budgets.{Budgets}
use Rattle.tree_search.specs.Decisions.{NeedMore}
use Rattle.request_json.specs.Laws.{RequestIsReadAgain}
use Rattle.command_words.specs.declared.limits.TheConstants.{MOST_SPLITS}
use Rattle.run_inputs.specs.declared.pair.Pair.{Pair}
use Rattle.run_inputs.specs.Pairs.{IsFitting}
use Rattle.policy_model.specs.Requests.{IsWellKept}

-- a valid request that the first set allows and the second doesn't. Each of its keys stands there once, with values, and is a text. The
-- line that is printed of it is read again, under the schema of the run, as this request
pub record IsWitness (pair : Pair) (r : Request) : Type 0 where
  pub kept : IsWellKept r
  pub again : RequestIsReadAgain pair.schema r
  pub valid : IsValid pair.schema r
  pub allowed : Allows pair.schema pair.first r
  pub refused : ¬ Allows pair.schema pair.second r

-- where the request is valid and the first set allows it, the second does
abbrev pub IsCovered : Pair → Request → Type 0
IsCovered pair r = IsValid pair.schema r → Allows pair.schema pair.first r → Allows pair.schema pair.second r

-- the second set allows each valid request that the first allows: all requests, of texts of any length
abbrev pub Covers : Pair → Type 0
Covers pair = (r : Request) → IsCovered pair r

-- and there are valid requests
abbrev pub CoversAll : Pair → Type 0
CoversAll pair = Covers pair × HasValidRequest pair.schema

-- ---- limits and budgets

-- the plan of the query 'the first set allows the request and the second doesn't'
abbrev pub plan_of : Pair → Plan
plan_of pair = query_plan pair.schema pair.first pair.second

-- the query has at most 1,000 tests, whose patterns have at most 65,536 pieces together
abbrev pub HasQuery : Pair → Type 0
HasQuery pair = (query : Query) × IsQuery (plan_of pair) query

-- the query of a pair that a schema can answer for, and that has valid requests, is asked within budgets of a split and a state at least
pub record IsComparable (budgets : Budgets) (pair : Pair) (query : Query) : Type 0 where
  pub fitting : IsFitting pair
  pub asked : IsQuery (plan_of pair) query
  pub valid : HasValidRequest pair.schema
  pub splits : 1 ≤ budgets.splits
  pub states : 1 ≤ budgets.states

-- the query has more than 1,000 tests
abbrev pub TooManyTests : Pair → Type 0
TooManyTests pair = HasTooMany [] (tests_in (plan_of pair))

-- it has at most 1,000, and their patterns have more than 65,536 pieces together
abbrev pub TooManyPieces : Pair → Type 0
TooManyPieces pair = HasTooManyPieces (plan_of pair)

-- of the query of the pair this holds
pub record SomeQuery (pair : Pair) (P : Query → Type 0) : Type 0 where
  pub query : Query
  pub is : IsQuery (plan_of pair) query
  pub holds : P query

-- the plain run of the query needs more splits
abbrev pub NeedsPlainSplits : Pair → ℕ → Type 0
NeedsPlainSplits pair splits =
    SomeQuery pair (λ q. NeedsMore (IsPossible pair.schema q.tests) (asked_tree q) [] splits)

-- and so does the run that a conflict of unit propagation ends too
abbrev pub NeedsSplits : Pair → ℕ → Type 0
NeedsSplits pair splits = SomeQuery pair (λ q. NeedMore pair.schema q [] splits)

-- at a node of the plain run where the query isn't no, and whose path answers a test of the slot, the slot's patterns have more
-- product states
pub record NeedsStates (pair : Pair) (states : ℕ) (s : Slot) : Type 0 where
  pub query : Query
  pub is : IsQuery (plan_of pair) query
  pub path : Answers
  pub node : IsNode (IsPossible pair.schema query.tests) (asked_tree query) [] path
  pub not_no : value path (asked_tree query) ≢ No
  pub asked : HasTest query.tests path s
  pub wider : IsWider (patterns_at pair.schema query.tests path s) states

-- with at most 19 tests the plain run needs no more splits than there may be at most, which are 2 ^ 19 - 1 or more
abbrev pub FewTestsAreDecided : Schema → Query → Type 0
FewTestsAreDecided schema query =
    (pair : Pair) → pair.schema ≡ schema → IsQuery (plan_of pair) query → length query.tests ≤ 19 →
    ¬ NeedsPlainSplits pair MOST_SPLITS

-- at no node of the plain run where the query isn't no has a slot that the path asks about more product states
abbrev pub FitsStates : Pair → ℕ → Type 0
FitsStates pair states = (s : Slot) → ¬ NeedsStates pair states s

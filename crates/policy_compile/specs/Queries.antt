-- What a query is, and when there is none.
use Rattle.std.specs.Prelude.{◌≡◌, ◌≤◌, ◌<◌, ◌+◌, ⊤, ℕ, List, [], length, sum_by, Option, Some, None, Result, Ok, Err}
use Rattle.std.specs.declared.rc.Rc.{Rc}
use Rattle.std.specs.declared.alloc.Global.{Global}
use Rattle.formula_tree.specs.declared.formula.Formula.{Formula}
use Rattle.formula_tree.specs.Trees.{Tree, tree_of}
use Rattle.policy_model.specs.declared.principal.Entry.{Entry}
use Rattle.policy_model.specs.declared.principal.Entry.TheVariants.{All, Kind, Account, Exact}
use Rattle.policy_model.specs.declared.test.Test.{Test}
use Rattle.policy_model.specs.declared.cond.Cond.{Cond}
use Rattle.policy_model.specs.declared.cond.Cond.TheVariants as cond
use Rattle.policy_model.specs.declared.test.Test.TheVariants.{Principal, Action, Resource, Present, SomeMeets, SomeMeetsNone}
use Rattle.policy_compile.specs.declared.builder.Builder.{Builder}
use Rattle.policy_compile.specs.declared.builder.TheConstants.{MOST_TESTS}
use Rattle.policy_compile.specs.declared.compile.TheConstants.{ACCOUNT_PIECES, MOST_PIECES}
use Rattle.policy_compile.specs.declared.outcome.Query.{Query}
use Rattle.policy_compile.specs.declared.outcome.QueryFault.{QueryFault}
use Rattle.policy_compile.specs.declared.outcome.QueryFault.TheVariants.{TooManyTests, TooManyPieces, NoMemory}
use Rattle.policy_compile.specs.Nodes.{IsPlanAt, tree_at}
use Rattle.policy_compile.specs.Plans.{Plan, tests_in}
use Rattle.policy_compile.specs.Numbering.{Collects, IsNumbered, HasTooMany}

-- how many pieces the patterns of a test have: an account is matched by 24, and an exact id by one for each character
abbrev pub entry_pieces : Entry → ℕ
entry_pieces All = 0
entry_pieces (Kind kind) = 0
entry_pieces (Account account) = ACCOUNT_PIECES
entry_pieces (Exact kind id) = length id

-- what is asked of a text has the pieces of its pattern, and what is asked of another value has none
abbrev pub cond_pieces : Cond → ℕ
cond_pieces (cond.Matches pattern) = length pattern
cond_pieces c = 0

abbrev pub test_pieces : Test → ℕ
test_pieces (Principal entry) = entry_pieces entry
test_pieces (Action pattern) = length pattern
test_pieces (Resource pattern) = length pattern
test_pieces (Present key) = 0
test_pieces (SomeMeets key c) = cond_pieces c
test_pieces (SomeMeetsNone key cs) = sum_by cond_pieces cs

-- what is left of so much room where so many pieces are taken, or none where they are more
abbrev pub IsRoomAfter : ℕ → ℕ → Option ℕ → Type 0
IsRoomAfter room pieces None = room < pieces
IsRoomAfter room pieces (Some left) = left + pieces ≡ room

-- the plan's tests, each once, at most 1,000 with at most 65,536 pieces together, and the plan with their numbers
pub record IsQuery (plan : Plan) (q : Query) : Type 0 where
  pub tests : Collects [] (tests_in plan) q.tests
  pub few : length q.tests ≤ MOST_TESTS
  pub small : sum_by test_pieces q.tests ≤ MOST_PIECES
  pub tree : IsNumbered q.tests plan (tree_of q.formula.value)

-- at most 1,000 tests have more than 65,536 pieces together
pub record HasTooManyPieces (plan : Plan) : Type 0 where
  pub tests : List Test
  pub collects : Collects [] (tests_in plan) tests
  pub few : length tests ≤ MOST_TESTS
  pub large : MOST_PIECES < sum_by test_pieces tests

-- the tree of a query
abbrev pub asked_tree : Query → Tree
asked_tree query = tree_of query.formula.value

-- a query, or why there is none
abbrev pub IsQueryOf : Plan → Result Query QueryFault → Type 0
IsQueryOf plan (Ok q) = IsQuery plan q
IsQueryOf plan (Err TooManyTests) = HasTooMany [] (tests_in plan)
IsQueryOf plan (Err TooManyPieces) = HasTooManyPieces plan
IsQueryOf plan (Err NoMemory) = ⊤

-- the formula of the node of this index: where the node is a plan, its tree is the plan
abbrev pub IsFormulaAt : Builder → ℕ → Rc Formula Global → Type 0
IsFormulaAt builder i f =
    (plan : Plan) → IsPlanAt builder.tests.keys builder.nodes.keys plan i → IsNumbered builder.tests.keys plan (tree_at f)

-- the formula of a node, where the tests have few enough pieces together, or why there is none
abbrev pub IsSmallFormula : Builder → ℕ → Result (Rc Formula Global) QueryFault → Type 0
IsSmallFormula builder i (Ok f) = (sum_by test_pieces builder.tests.keys ≤ MOST_PIECES) × IsFormulaAt builder i f
IsSmallFormula builder i (Err TooManyTests) = ⊥
IsSmallFormula builder i (Err TooManyPieces) = MOST_PIECES < sum_by test_pieces builder.tests.keys
IsSmallFormula builder i (Err NoMemory) = ⊤

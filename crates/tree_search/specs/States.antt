-- Where a search stands: what follows its path, and how it goes on and back.
use Rattle.std.specs.Prelude.{◌≡◌, ◌≤◌, ℕ, List, [], length, Bool, All, Some, None}
use Rattle.formula_tree.specs.Answers.{Answers}
use Rattle.formula_tree.specs.Runs.{path_with}
use Rattle.cnf_clauses.specs.Following.{LosesLast}
use Rattle.cnf_clauses.specs.Levels.{Followed}
use Rattle.nogoods.specs.Tracking.{Tracked}
use Rattle.policy_model.specs.declared.schema.Schema.{Schema}
use Rattle.policy_compile.specs.declared.outcome.Query.{Query}
use Rattle.policy_compile.specs.Queries.{asked_tree}
use Rattle.refute_check.specs.Laws.{NoneMeets}
use Rattle.search_parts.specs.declared.learning.TheConstants.{MOST_LEARNED}
use Rattle.tree_values.specs.Models.{Answered, IsAnsweredBy, IsSet}
use Rattle.tree_search.specs.declared.cores.Cores.{Cores}
use Rattle.tree_search.specs.declared.state.State.{State}
use Rattle.tree_search.specs.Cores.{AreKeptCores, IsNoCore}

-- the query's formula, with the answers of the path
pub record IsEvaluated (query : Query) (path : Answers) (v : Answered) : Type 0 where
  pub formula_is : v.formula ≡ query.formula.value
  pub room : length v.answers ≡ length query.tests
  pub answers : IsAnsweredBy v path

-- no valid request answers what is stored and makes the query yes
abbrev pub AreAllUnmet : Schema → Query → List Answers → Type 0
AreAllUnmet schema query store = All (NoneMeets schema query.tests (asked_tree query)) store

-- what was learned stands at the path
pub record IsLearned (schema : Schema) (query : Query) (path : Answers) (learned : Tracked) : Type 0 where
  pub path_is : learned.path ≡ path
  pub right : AreAllUnmet schema query learned.lists
  pub few : length learned.lists ≤ MOST_LEARNED

-- all that follows the path is at it, but for the slots' values and the clauses
pub record IsStanding (schema : Schema) (query : Query) (path : Answers) (tree : Answered) (learned : Tracked) (cores : Cores) : Type 0 where
  pub evaluated : IsEvaluated query path tree
  pub stored : IsLearned schema query path learned
  pub cores_path : cores.lists.path ≡ path
  pub kept : AreKeptCores schema query.tests cores

-- the state at the empty path
pub record IsStartState (query : Query) (clauses : Followed) (left : ℕ) (state : State) : Type 0 where
  pub path : state.path ≡ []
  pub tree : IsEvaluated query [] state.tree
  pub clauses_are : state.clauses ≡ clauses
  pub learned : state.learned ≡ record { lists = []; path = [] }
  pub cores : IsNoCore state.cores
  pub values : state.values ≡ []
  pub left_is : state.left ≡ left

-- what a step down or back leaves as it was
pub record IsBeside (old new : State) : Type 0 where
  pub clauses : new.clauses ≡ old.clauses
  pub lists : new.learned.lists ≡ old.learned.lists
  pub cores_lists : new.cores.lists.lists ≡ old.cores.lists.lists
  pub cores_parts : new.cores.parts ≡ old.cores.parts
  pub values : new.values ≡ old.values
  pub left : new.left ≡ old.left

-- one more answer
pub record IsDeeper (old : State) (test : ℕ) (answer : Bool) (new : State) : Type 0 where
  pub beside : IsBeside old new
  pub path : new.path ≡ path_with old.path test answer
  pub tree : IsSet old.tree new.tree test (Some answer)
  pub learned : new.learned.path ≡ path_with old.learned.path test answer
  pub cores : new.cores.lists.path ≡ path_with old.cores.lists.path test answer

-- the last answer, to this test, is taken back
pub record IsTakenBack (old : State) (test : ℕ) (new : State) : Type 0 where
  pub beside : IsBeside old new
  pub path : LosesLast old.path new.path
  pub tree : IsSet old.tree new.tree test None
  pub learned : LosesLast old.learned.path new.learned.path
  pub cores : LosesLast old.cores.lists.path new.cores.lists.path

-- What the steps of a search are asked and answer.
use Rattle.std.specs.Prelude.{◌≡◌, ◌≢◌, ◌≤◌, ◌<◌, ◌-◌, ◌^◌, ◌++◌, ◌∷◌, ◌↔◌, [], ℕ, List, length, slice_set}
use Rattle.std.specs.Prelude.{Bool, true, Option, Some, None, All, IsTrue}
use Rattle.formula_tree.specs.Answers.{Answers, answer_of}
use Rattle.formula_tree.specs.Runs.{path_with}
use Rattle.formula_tree.specs.Values.{AreBelow, value}
use Rattle.formula_tree.specs.declared.value.Three.TheVariants.{No, Yes}
use Rattle.cnf_clauses.specs.Levels.{Followed}
use Rattle.cnf_clauses.specs.Numbering.{clauses_of}
use Rattle.nogoods.specs.Hits.{NoHit}
use Rattle.text_table.specs.Table.{IsInOrder}
use Rattle.wildcard_lang.specs.Places.{ShowWider}
use Rattle.policy_model.specs.declared.request.Request.{Request}
use Rattle.policy_model.specs.declared.schema.Schema.{Schema}
use Rattle.policy_model.specs.declared.test.Slot.{Slot}
use Rattle.policy_model.specs.Soundness.{SchemaIsSound, TestSuits}
use Rattle.policy_compile.specs.declared.outcome.Query.{Query}
use Rattle.policy_compile.specs.Queries.{asked_tree}
use Rattle.slot_theory.specs.declared.outcome.SlotValue.{SlotValue}
use Rattle.slot_theory.specs.Cores.{HasTest}
use Rattle.slot_theory.specs.Possible.{PathInRange}
use Rattle.slot_theory.specs.Slots.{patterns_at}
use Rattle.request_build.specs.Built.{AreSlotValues}
use Rattle.refute_check.specs.Laws.{IsMetBy}
use Rattle.search_parts.specs.declared.part.Halves.{Halves}
use Rattle.search_parts.specs.declared.learning.TheConstants.{MOST_LEARNED}
use Rattle.search_parts.specs.declared.part.Part.{Part}
use Rattle.search_parts.specs.Joining.{IsJoined}
use Rattle.search_parts.specs.Making.{IsMadePart, part_proof}
use Rattle.search_parts.specs.Needs.{AreNeeds}
use Rattle.search_parts.specs.Parts.{ClosesByStore}
use Rattle.tree_values.specs.Models.{answered_tree}
use Rattle.tree_search.specs.declared.found.Found.{Found}
use Rattle.tree_search.specs.declared.found.Found.TheVariants.{Refuted, Met, OutOfSplits, OutOfStates}
use Rattle.tree_search.specs.declared.outcome.Wide.{Wide}
use Rattle.tree_search.specs.declared.search.Search.{Search}
use Rattle.tree_search.specs.declared.state.State.{State}
use Rattle.tree_search.specs.Decisions.{NeedMore}
use Rattle.tree_search.specs.Leading.{IsReachedBy}
use Rattle.tree_search.specs.Nodes.{IsCounted, IsToBeSplit}
use Rattle.tree_search.specs.States.{IsStanding}

-- slots, each with a value
abbrev pub Values : Type 0
Values = List (Slot × SlotValue)

-- what is asked for all through a search of the query
pub record IsAskedFor (schema : Schema) (query : Query) (states : ℕ) : Type 0 where
  pub sound : SchemaIsSound schema
  pub order : IsInOrder schema.keys
  pub suit : All (TestSuits schema) query.tests
  pub count : length query.tests < 2 ^ 32
  pub below : AreBelow (length query.tests) (asked_tree query)
  pub positive : 1 ≤ states

-- and the clauses are the query's
pub record IsReady (s : Search) : Type 0 where
  pub asked : IsAskedFor s.schema.now s.query.now s.states
  pub clauses_are : s.clauses.now ≡ clauses_of (length s.query.now.tests) (asked_tree s.query.now)

-- all but the slots' values and the clauses is at the path
abbrev pub Stands : Search → State → Type 0
Stands s state = IsStanding s.schema.now s.query.now state.path state.tree state.learned state.cores

-- the values are those of the path
pub record AreCarried (schema : Schema) (query : Query) (path : Answers) (values : Values) : Type 0 where
  pub range : PathInRange query.tests path
  pub each : AreSlotValues schema query.tests path values

abbrev pub Carries : Search → State → Type 0
Carries s state = AreCarried s.schema.now s.query.now state.path state.values

-- what unit propagation follows at the path: the clauses of the query
abbrev pub followed_at : Query → Answers → Followed
followed_at query path = record { clauses = clauses_of (length query.tests) (asked_tree query); path = path }

abbrev pub Follows : Search → State → Type 0
Follows s state = state.clauses ≡ followed_at s.query.now state.path

-- the path answers one more test than the one whose values are given
pub record IsLonger (schema : Schema) (query : Query) (path : Answers) (values : Values) (test : ℕ) (answer : Bool) : Type 0 where
  pub before : Answers
  pub carried : AreCarried schema query before values
  pub within : test < length query.tests
  pub new : answer_of before test ≡ None
  pub is : path ≡ path_with before test answer

abbrev pub IsOneLonger : Search → State → ℕ → Bool → Type 0
IsOneLonger s state test answer = IsLonger s.schema.now s.query.now state.path state.values test answer

-- and unit propagation doesn't follow its last answer yet
pub record IsSideAhead (s : Search) (state : State) (test : ℕ) (answer : Bool) : Type 0 where
  pub longer : IsOneLonger s state test answer
  pub behind : state.clauses ≡ followed_at s.query.now longer.before

-- the values with one more, or with one in place of that at the index
abbrev pub with_value : Values → Slot × SlotValue → Option ℕ → Values
with_value values value None = values ++ value ∷ []
with_value values value (Some i) = slice_set values i value

abbrev pub CarriesWith : Search → State → Slot × SlotValue → Option ℕ → Type 0
CarriesWith s state value index = AreCarried s.schema.now s.query.now state.path (with_value state.values value index)

-- the query isn't no under the path
abbrev pub MayBeYes : Search → State → Type 0
MayBeYes s state = value state.path (asked_tree s.query.now) ≢ No

-- the path has the answers of nothing that was learned
abbrev pub NothingLearned : State → Type 0
NothingLearned state = NoHit state.learned.lists state.path

-- the search is at the state's path, but for the slots' values
pub record IsAtPath (s : Search) (state : State) : Type 0 where
  pub ready : IsReady s
  pub stands : Stands s state
  pub follows : Follows s state

-- and neither the tree's value nor what was learned closes it
pub record IsOpenAt (s : Search) (state : State) : Type 0 where
  pub at : IsAtPath s state
  pub may : MayBeYes s state
  pub nothing : NothingLearned state

-- all is at the path as before; some more may have been learned, and no split has been added to those that are left
pub record IsRestored (s : Search) (old new : State) : Type 0 where
  pub path : new.path ≡ old.path
  pub values : new.values ≡ old.values
  pub clauses : new.clauses ≡ old.clauses
  pub left : new.left ≤ old.left
  pub stands : Stands s new
  pub more : List Answers
  pub grows : new.learned.lists ≡ old.learned.lists ++ more

-- a valid request answers the path and makes the query yes
abbrev pub IsMetHere : Search → State → Request → Type 0
IsMetHere s state = IsMetBy s.schema.now s.query.now.tests (asked_tree s.query.now) state.path

-- the part closes the query under the path, where the first lists were stored before it and the second are now, by at most so many
-- splits; and both runs from the path end without a request and have at least as many
pub record IsRefutedPart (schema : Schema) (query : Query) (path : Answers) (old new : List Answers) (used : ℕ) (part : Part)
    : Type 0 where
  pub made : IsMadePart schema query.tests (asked_tree query) old new path used part
  pub counted : IsCounted schema query path used

-- so many splits lead to a node whose path the request answers, and at which the query is yes
pub record IsMetThere (schema : Schema) (query : Query) (store : List Answers) (ended used : ℕ) (path : Answers) (q : Request) : Type 0 where
  pub node : Answers
  pub reached : IsReachedBy schema query store ended used path node
  pub met : IsMetBy schema query.tests (asked_tree query) node q
  pub is_yes : value node (asked_tree query) ≡ Yes

-- both runs from the path need more splits than there may be, and as many as there may be lead to a node that is to be split
pub record IsShortOf (schema : Schema) (query : Query) (store : List Answers) (ended left : ℕ) (path : Answers) : Type 0 where
  pub more : NeedMore schema query path left
  pub node : Answers
  pub reached : IsReachedBy schema query store ended left path node
  pub next : IsToBeSplit schema query node

-- so many splits lead to the kept path, at which the query isn't no; it answers a test of the slot, and the kept texts show the
-- patterns of the slot there wider than the states
pub record IsWideBy (schema : Schema) (query : Query) (store : List Answers) (ended used states : ℕ) (path : Answers) (w : Wide)
    : Type 0 where
  pub reached : IsReachedBy schema query store ended used path w.path
  pub not_no : value w.path (asked_tree query) ≢ No
  pub asked : HasTest query.tests w.path w.slot
  pub texts : ShowWider (patterns_at schema query.tests w.path w.slot) states w.texts

-- what was stored before a search, what is now, how many splits were left and how many were used
pub record Spent : Type 0 where
  pub old : List Answers
  pub new : List Answers
  pub left : ℕ
  pub used : ℕ

abbrev pub spent_between : State → State → Spent
spent_between old new = record { old = old.learned.lists; new = new.learned.lists; left = old.left; used = old.left - new.left }

-- what is found from a path
abbrev pub IsFoundFrom : Schema → Query → ℕ → Answers → Spent → Found → Type 0
IsFoundFrom schema query states path s (Refuted part) = IsRefutedPart schema query path s.old s.new s.used part
IsFoundFrom schema query states path s (Met q) = IsMetThere schema query s.new (length s.old) s.used path q
IsFoundFrom schema query states path s OutOfSplits = IsShortOf schema query s.new (length s.old) s.left path
IsFoundFrom schema query states path s (OutOfStates w) = IsWideBy schema query s.new (length s.old) s.used states path w

-- what is found from the state's path
abbrev pub IsFoundHere : Search → State → State → Found → Type 0
IsFoundHere s old new = IsFoundFrom s.schema.now s.query.now s.states old.path (spent_between old new)

-- what is found from its path with one more answer
abbrev pub IsFoundThere : Search → State → ℕ → Bool → State → Found → Type 0
IsFoundThere s old test answer new =
    IsFoundFrom s.schema.now s.query.now s.states (path_with old.path test answer) (spent_between old new)

-- ---- a split

abbrev pub closes_here : Search → State → Part → Answers → Type 0
closes_here s state part path =
    ClosesByStore state.learned.lists s.schema.now s.query.now.tests (asked_tree s.query.now) (part_proof part) path

-- the part closes the yes side of a split, and it is known what it needs
pub record IsSide (s : Search) (state : State) (test : ℕ) (yes : Part) : Type 0 where
  pub closes : closes_here s state yes (path_with state.path test true)
  pub needs : AreNeeds state.learned.lists (closes_here s state yes) (part_proof yes) (path_with state.path test true) yes.needs

-- it says whether the part closes at the path itself
abbrev pub SaysIfClosed : Search → State → Part → Bool → Type 0
SaysIfClosed s state part result = IsTrue result ↔ closes_here s state part state.path

-- the split of the two, where all but what was learned is as before
pub record IsJoinedHere (old : State) (halves : Halves) (new : State) (part : Part) : Type 0 where
  pub path : new.path ≡ old.path
  pub tree : new.tree ≡ old.tree
  pub clauses : new.clauses ≡ old.clauses
  pub cores : new.cores ≡ old.cores
  pub values : new.values ≡ old.values
  pub left : new.left ≡ old.left
  pub learned_path : new.learned.path ≡ old.learned.path
  pub few : length new.learned.lists ≤ MOST_LEARNED
  pub joined : IsJoined old.path halves old.learned.lists new.learned.lists (answered_tree old.tree) part

-- What a search may decide of a query.
use Rattle.std.specs.Prelude.{◌≡◌, ◌≢◌, ◌≤◌, ◌*◌, ℕ, [], length}
use Rattle.formula_tree.specs.Answers.{Answers}
use Rattle.formula_tree.specs.Nodes.{IsNode}
use Rattle.formula_tree.specs.Runs.{NeedsMore}
use Rattle.formula_tree.specs.Values.{value}
use Rattle.formula_tree.specs.declared.value.Three.TheVariants.{No, Yes}
use Rattle.wildcard_lang.specs.Places.{ShowWider}
use Rattle.policy_model.specs.declared.request.Request.{Request}
use Rattle.policy_model.specs.declared.schema.Schema.{Schema}
use Rattle.policy_model.specs.Requests.{IsValid}
use Rattle.policy_compile.specs.declared.outcome.Query.{Query}
use Rattle.policy_compile.specs.Queries.{asked_tree}
use Rattle.slot_theory.specs.Possible.{AnswersPath, IsPossible}
use Rattle.slot_theory.specs.Cores.{HasTest}
use Rattle.slot_theory.specs.Slots.{patterns_at}
use Rattle.refute_check.specs.Proofs.{Proof, depth, proof_of, splits}
use Rattle.refute_check.specs.Closing.{Before, at_first}
use Rattle.refute_check.specs.Laws.{MakesYes}
use Rattle.refute_check.specs.Queries.{ClosesAll}
use Rattle.refute_check.specs.Propagated.{PropagatedNeedsMore}
use Rattle.search_parts.specs.Trimmed.{IsTrimmed}
use Rattle.tree_search.specs.declared.outcome.Budgets.{Budgets}
use Rattle.tree_search.specs.declared.outcome.Decided.{Decided}
use Rattle.tree_search.specs.declared.outcome.Decided.TheVariants.{Refuted, Met, OutOfSplits, OutOfStates}
use Rattle.tree_search.specs.declared.outcome.Wide.{Wide}
use Rattle.tree_search.specs.Nodes.{IsPropagatedNode, IsToBeSplit, LeadTo}

-- the refutation closes the query; it has at most so many splits, a shared one counted as often as it stands; its splits and labels
-- nest at most twice as deep as there are tests; and it is trimmed
pub record IsRefutation (schema : Schema) (query : Query) (most : ℕ) (proof : Proof) : Type 0 where
  pub closes : ClosesAll schema query proof
  pub few : splits proof ≤ most
  pub nests : depth proof ≤ 2 * length query.tests
  pub trimmed : IsTrimmed schema query.tests (asked_tree query) proof

-- the request is valid and makes the query yes
pub record MeetsQuery (schema : Schema) (query : Query) (q : Request) : Type 0 where
  pub valid : IsValid schema q
  pub meets : MakesYes query.tests (asked_tree query) q

-- no more splits than so many lead from the first path to the second, after what stands before
pub record IsFewSplitsAway (schema : Schema) (query : Query) (before : Before) (most : ℕ) (path node : Answers) : Type 0 where
  pub count : ℕ
  pub lead : LeadTo schema query before count path node
  pub few : count ≤ most

-- the kept path is a node of both runs from the path, to which no more splits than so many lead, and at which the query isn't no; it
-- answers a test of the slot, and the kept texts show the patterns of the slot there wider than the states
pub record IsWide (schema : Schema) (query : Query) (before : Before) (most states : ℕ) (path : Answers) (w : Wide) : Type 0 where
  pub node : IsNode (IsPossible schema query.tests) (asked_tree query) path w.path
  pub propagated : IsPropagatedNode schema query path w.path
  pub near : IsFewSplitsAway schema query before most path w.path
  pub not_no : value w.path (asked_tree query) ≢ No
  pub asked : HasTest query.tests w.path w.slot
  pub texts : ShowWider (patterns_at schema query.tests w.path w.slot) states w.texts

-- the plain run from the path needs more splits than so many, and so does the propagated run
pub record NeedMore (schema : Schema) (query : Query) (path : Answers) (most : ℕ) : Type 0 where
  pub plain : NeedsMore (IsPossible schema query.tests) (asked_tree query) path most
  pub propagated : PropagatedNeedsMore schema query.tests (asked_tree query) path most

-- what is decided of a query: a refutation within the budget of splits; a request; that both runs need more splits than there
-- may be; or that a slot needs more states at a node of both runs
abbrev pub IsDecision : Schema → Query → Budgets → Decided → Type 0
IsDecision schema query budgets (Refuted r) = IsRefutation schema query budgets.splits (proof_of r.value)
IsDecision schema query budgets (Met q) = MeetsQuery schema query q
IsDecision schema query budgets OutOfSplits = NeedMore schema query [] budgets.splits
IsDecision schema query budgets (OutOfStates w) = IsWide schema query at_first budgets.splits budgets.states [] w

-- the request answers the path of a node of both runs, at which the query is yes and to which no more splits than so many lead
pub record IsMetNear (schema : Schema) (query : Query) (before : Before) (most : ℕ) (path : Answers) (q : Request) : Type 0 where
  pub node : Answers
  pub on_run : IsNode (IsPossible schema query.tests) (asked_tree query) path node
  pub propagated : IsPropagatedNode schema query path node
  pub near : IsFewSplitsAway schema query before most path node
  pub answers : AnswersPath query.tests node q
  pub is_yes : value node (asked_tree query) ≡ Yes

-- a node of both runs is to be split, and exactly so many splits lead to it
pub record IsStoppedAfter (schema : Schema) (query : Query) (before : Before) (made : ℕ) (path : Answers) : Type 0 where
  pub node : Answers
  pub on_run : IsNode (IsPossible schema query.tests) (asked_tree query) path node
  pub propagated : IsPropagatedNode schema query path node
  pub lead : LeadTo schema query before made path node
  pub next : IsToBeSplit schema query node

-- A decision comes within so many splits: no more are in a refutation, nor lead to where a request is met or a slot is wide; and the
-- search stops for want of splits where one more would be one too many. The splits of a side that was passed count by some number
-- between those of a refutation that closes it and those of both runs, since a search needn't keep every split that it made.
abbrev pub IsWithinSplits : Schema → Query → ℕ → Decided → Type 0
IsWithinSplits schema query most (Refuted r) = splits (proof_of r.value) ≤ most
IsWithinSplits schema query most (Met q) = IsMetNear schema query at_first most [] q
IsWithinSplits schema query most OutOfSplits = IsStoppedAfter schema query at_first most []
IsWithinSplits schema query most (OutOfStates w) = IsFewSplitsAway schema query at_first most [] w.path

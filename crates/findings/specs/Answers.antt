-- What may be asked of who decides queries, what is answered, and what a summary comes to.
use Rattle.std.specs.Prelude.{◌≢◌, ◌<◌, ◌+◌, ◌^◌, ⊤, ℕ, List, [], length, All, Result, Ok, Err}
use Rattle.formula_tree.specs.Nodes.{IsNode}
use Rattle.formula_tree.specs.Runs.{NeedsMore}
use Rattle.formula_tree.specs.Values.{AreBelow, value}
use Rattle.formula_tree.specs.declared.value.Three.TheVariants.{No}
use Rattle.wildcard_lang.specs.Places.{ShowWider}
use Rattle.policy_model.specs.declared.request.Request.{Request}
use Rattle.policy_model.specs.declared.schema.Schema.{Schema}
use Rattle.policy_model.specs.Soundness.{SchemaIsSound, TestSuits}
use Rattle.policy_compile.specs.declared.outcome.Query.{Query}
use Rattle.policy_compile.specs.Queries.{asked_tree}
use Rattle.slot_theory.specs.Cores.{HasTest}
use Rattle.slot_theory.specs.Possible.{IsPossible}
use Rattle.slot_theory.specs.Slots.{patterns_at}
use Rattle.refute_check.specs.Laws.{IsMetBy, NoneMeets}
use Rattle.strata.specs.declared.stratum.Stratum.{Stratum}
use Rattle.findings.specs.declared.decide.Asked.{Asked}
use Rattle.findings.specs.declared.decide.Asked.TheVariants.{Met, Nobody, OutOfSplits, OutOfStates}
use Rattle.findings.specs.declared.decide.Wide.{Wide}
use Rattle.findings.specs.declared.outcome.SummaryFault.{SummaryFault}
use Rattle.findings.specs.declared.outcome.SummaryFault.TheVariants as fault
use Rattle.findings.specs.declared.region.Region.{Region}
use Rattle.findings.specs.Queries.{IsFindingQuery}
use Rattle.findings.specs.Regions.{region_plan}
use Rattle.findings.specs.Summaries.{IsSummary, MustBeVisited, VisitsAtLeast}

-- a query that may be asked: its tests suit the schema and are numbered by 32 bits, and its tree has their numbers alone
pub record QueryIsAskable (schema : Schema) (query : Query) : Type 0 where
  pub sound : SchemaIsSound schema
  pub suit : All (TestSuits schema) query.tests
  pub count : length query.tests < 2 ^ 32
  pub below : AreBelow (length query.tests) (asked_tree query)

-- the plain run of the query needs more splits than so many
abbrev pub SplitsFail : Schema → Query → ℕ → Type 0
SplitsFail schema query splits = NeedsMore (IsPossible schema query.tests) (asked_tree query) [] splits

-- the kept path is a node of the plain run, which answers a test of the slot and where the query isn't no, and the kept texts show
-- the patterns of the slot there wider than the states
pub record StatesFail (schema : Schema) (query : Query) (states : ℕ) (w : Wide) : Type 0 where
  pub node : IsNode (IsPossible schema query.tests) (asked_tree query) [] w.path
  pub not_no : value w.path (asked_tree query) ≢ No
  pub asked : HasTest query.tests w.path w.slot
  pub texts : ShowWider (patterns_at schema query.tests w.path w.slot) states w.texts

-- a valid request that makes the query's tree yes; that there is none; or that a number is too small for the query
abbrev pub AnswersQuery : Schema → ℕ → ℕ → Query → Asked → Type 0
AnswersQuery schema splits states query (Met r) = IsMetBy schema query.tests (asked_tree query) [] r
AnswersQuery schema splits states query Nobody = NoneMeets schema query.tests (asked_tree query) []
AnswersQuery schema splits states query OutOfSplits = SplitsFail schema query splits
AnswersQuery schema splits states query (OutOfStates w) = StatesFail schema query states w

-- the finding must be looked at, and of its query P holds
pub record FailsAtFinding (schema : Schema) (region : Region) (ds : List Stratum) (f : List ℕ) (P : Query → Type 0) : Type 0 where
  pub visited : MustBeVisited schema region ds f
  pub query : Query
  pub is : IsFindingQuery (region_plan schema region) ds f query
  pub fails : P query

-- What a summary of a region comes to, where queries are answered within so many splits and states and at most so many findings may
-- be looked at: the summary; that more findings must be looked at; or a finding that must be, and for whose query a number is too
-- small
abbrev pub IsSummarised :
    Schema → Region → List Stratum → ℕ → ℕ → ℕ → Result (List (List ℕ × Request)) SummaryFault → Type 0
IsSummarised schema region ds splits states findings (Ok summary) = IsSummary schema region ds summary
IsSummarised schema region ds splits states findings (Err fault.OutOfFindings) = VisitsAtLeast schema region ds (findings + 1)
IsSummarised schema region ds splits states findings (Err (fault.OutOfSplits f)) =
    FailsAtFinding schema region ds f (λ q. SplitsFail schema q splits)
IsSummarised schema region ds splits states findings (Err (fault.OutOfStates f w)) =
    FailsAtFinding schema region ds f (λ q. StatesFail schema q states w)
IsSummarised schema region ds splits states findings (Err fault.NoMemory) = ⊤

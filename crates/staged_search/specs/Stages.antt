-- What a query that is decided in stages comes to.
use Rattle.std.specs.Prelude.{◌≤◌, ◌<◌, ◌^◌, [], All, length}
use Rattle.formula_tree.specs.Values.{AreBelow}
use Rattle.policy_model.specs.declared.request.Request.{Request}
use Rattle.policy_model.specs.declared.schema.Schema.{Schema}
use Rattle.policy_model.specs.Requests.{IsValid}
use Rattle.policy_model.specs.Soundness.{SchemaIsSound, TestSuits}
use Rattle.policy_compile.specs.declared.outcome.Query.{Query}
use Rattle.policy_compile.specs.Queries.{asked_tree}
use Rattle.refute_check.specs.Closing.{at_first}
use Rattle.refute_check.specs.Laws.{MakesYes}
use Rattle.tree_search.specs.declared.outcome.Budgets.{Budgets}
use Rattle.tree_search.specs.declared.outcome.Decided.{Decided}
use Rattle.tree_search.specs.declared.outcome.Decided.TheVariants as decided
use Rattle.tree_search.specs.Decisions.{IsWide, MeetsQuery, NeedMore}
use Rattle.staged_search.specs.declared.verdict.Verdict.{Verdict}
use Rattle.staged_search.specs.declared.verdict.Verdict.TheVariants.{Nobody, Met, OutOfSplits, OutOfStates}

-- the schema is sound, every test suits it, the formula's test numbers are below the number of tests, and there may be a split
-- and a state
pub record AreStagesAsked (schema : Schema) (query : Query) (budgets : Budgets) : Type 0 where
  pub sound : SchemaIsSound schema
  pub suit : All (TestSuits schema) query.tests
  pub count : length query.tests < 2 ^ 32
  pub below : AreBelow (length query.tests) (asked_tree query)
  pub splits : 1 ≤ budgets.splits
  pub states : 1 ≤ budgets.states

-- no valid request makes the query yes; this one does; both runs need more splits than there may be; or a slot needs more states at a
-- node of the plain run
abbrev pub IsStagedVerdict : Schema → Query → Budgets → Verdict → Type 0
IsStagedVerdict schema query budgets Nobody = (r : Request) → IsValid schema r → MakesYes query.tests (asked_tree query) r → ⊥
IsStagedVerdict schema query budgets (Met r) = MeetsQuery schema query r
IsStagedVerdict schema query budgets OutOfSplits = NeedMore schema query [] budgets.splits
IsStagedVerdict schema query budgets (OutOfStates w) = IsWide schema query at_first budgets.splits budgets.states [] w

-- a decision without its refutation
abbrev pub verdict_in : Decided → Verdict
verdict_in (decided.Refuted r) = Nobody
verdict_in (decided.Met r) = Met r
verdict_in decided.OutOfSplits = OutOfSplits
verdict_in (decided.OutOfStates w) = OutOfStates w

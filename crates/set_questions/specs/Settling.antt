-- What is answered on a query by who settles it.
use Rattle.std.specs.Prelude.{◌≤◌, ◌*◌, ℕ, [], length}
use Rattle.policy_model.specs.declared.schema.Schema.{Schema}
use Rattle.policy_compile.specs.declared.outcome.Query.{Query}
use Rattle.policy_compile.specs.Queries.{asked_tree}
use Rattle.refute_check.specs.Laws.{IsMetBy}
use Rattle.refute_check.specs.Proofs.{Proof, depth, proof_of}
use Rattle.refute_check.specs.Queries.{ClosesAll}
use Rattle.refute_check.specs.Propagated.{PropagatedNeedsMore}
use Rattle.findings.specs.Answers.{SplitsFail, StatesFail}
use Rattle.set_questions.specs.declared.settling.Settled.{Settled}
use Rattle.set_questions.specs.declared.settling.Settled.TheVariants.{Met, Nobody, OutOfSplits, OutOfStates}

-- a refutation closes the query, so no valid request makes it yes; its splits and labels nest at most twice as deep as there are
-- tests, so that it can be written and read again
pub record RefutesQuery (schema : Schema) (query : Query) (proof : Proof) : Type 0 where
  pub closes : ClosesAll schema query proof
  pub nests : depth proof ≤ 2 * length query.tests

-- the plain run of the query needs more splits than so many, and so does the propagated run
abbrev pub BothRunsFail : Schema → Query → ℕ → Type 0
BothRunsFail schema query splits =
    SplitsFail schema query splits × PropagatedNeedsMore schema query.tests (asked_tree query) [] splits

-- a valid request that makes the query's tree yes; a refutation that closes it; or that a number is too small for the query
abbrev pub SettlesQuery : Schema → ℕ → ℕ → Query → Settled → Type 0
SettlesQuery schema splits states query (Met r) = IsMetBy schema query.tests (asked_tree query) [] r
SettlesQuery schema splits states query (Nobody r) = RefutesQuery schema query (proof_of r.value)
SettlesQuery schema splits states query OutOfSplits = BothRunsFail schema query splits
SettlesQuery schema splits states query (OutOfStates w) = StatesFail schema query states w

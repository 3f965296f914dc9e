-- The verdict of the search on a query answers it.
use Rattle.policy_model.specs.declared.schema.Schema.{Schema}
use Rattle.policy_compile.specs.declared.outcome.Query.{Query}
use Rattle.tree_search.specs.declared.outcome.Budgets.{Budgets}
use Rattle.staged_search.specs.declared.verdict.Verdict.{Verdict}
use Rattle.staged_search.specs.declared.verdict.Verdict.TheVariants as verdict
use Rattle.staged_search.specs.Stages.{IsStagedVerdict}
use Rattle.findings.specs.Answers.{AnswersQuery}
use Rattle.summary_search.specs.Deciding.{answer_to}

pub answers : (schema : Schema) (query : Query) (budgets : Budgets) (v : Verdict) → IsStagedVerdict schema query budgets v → AnswersQuery schema budgets.splits budgets.states query (answer_to v)
answers schema query budgets verdict.Nobody h = λ q met. h q met.valid met.meets
answers schema query budgets (verdict.Met q) h = record { valid = h.valid; answers = λ n b t e at. absurd (cc); meets = h.meets }
answers schema query budgets verdict.OutOfSplits h = h.plain
answers schema query budgets (verdict.OutOfStates w) h = record {
  node = h.node;
  not_no = h.not_no;
  asked = h.asked;
  texts = h.texts;
}

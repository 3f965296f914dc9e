-- What each stage comes to is a verdict within the budgets.
use Rattle.std.proofs.Common.{◌≡◌, ◌≢◌, ◌≤◌, ℕ, [], arith, refl, subst}
use Rattle.policy_model.specs.declared.schema.Schema.{Schema}
use Rattle.policy_compile.specs.declared.outcome.Query.{Query}
use Rattle.policy_compile.specs.Queries.{asked_tree}
use Rattle.refute_check.specs.Closing.{at_first}
use Rattle.refute_check.specs.Laws.{ClosedQueriesAreNo}
use Rattle.refute_check.specs.Proofs.{proof_of}
use Rattle.tree_search.specs.declared.outcome.Budgets.{Budgets}
use Rattle.tree_search.specs.declared.outcome.Decided.{Decided}
use Rattle.tree_search.specs.declared.outcome.Decided.TheVariants as decided
use Rattle.tree_search.specs.declared.outcome.Wide.{Wide}
use Rattle.tree_search.specs.Decisions.{IsDecision, IsWide}
use Rattle.staged_search.specs.declared.verdict.Verdict.{Verdict}
use Rattle.staged_search.specs.declared.verdict.Verdict.TheVariants.{Nobody, Met, OutOfSplits, OutOfStates}
use Rattle.staged_search.specs.Stages.{AreStagesAsked, IsStagedVerdict, verdict_in}

-- a decision is one without its refutation
pub staged_if_decided : ClosedQueriesAreNo → (schema : Schema) (query : Query) (budgets : Budgets) → AreStagesAsked schema query budgets → (d : Decided) → IsDecision schema query budgets d → IsStagedVerdict schema query budgets (verdict_in d)
staged_if_decided law schema query budgets asked (decided.Refuted r) h = λ q valid meets. law schema query.tests (asked_tree query) (proof_of r.value) asked.below h.closes q valid meets
staged_if_decided law schema query budgets asked (decided.Met r) h = h
staged_if_decided law schema query budgets asked decided.OutOfSplits h = h
staged_if_decided law schema query budgets asked (decided.OutOfStates w) h = h

-- where a slot is wide to which few splits lead, no more than there may be lead to it
wide-within : (schema : Schema) (query : Query) (few budgets : Budgets) (w : Wide) → few.splits ≤ budgets.splits → few.states ≡ budgets.states → IsWide schema query at_first few.splits few.states [] w → IsWide schema query at_first budgets.splits budgets.states [] w
wide-within schema query few budgets w below same h =
    subst (λ (n : ℕ). IsWide schema query at_first budgets.splits n [] w) same
    (record {
      node = h.node;
      propagated = h.propagated;
      near = record { count = h.near.count; lead = h.near.lead; few = let least = h.near.few in omega (arith, below, least) };
      not_no = h.not_no;
      asked = h.asked;
      texts = h.texts;
    })

-- a verdict within few splits that more splits don't change is one within more
pub staged_if_few : (schema : Schema) (query : Query) (few budgets : Budgets) (v : Verdict) → few.splits ≤ budgets.splits → few.states ≡ budgets.states → v ≢ OutOfSplits → IsStagedVerdict schema query few v → IsStagedVerdict schema query budgets v
staged_if_few schema query few budgets Nobody below same ended h = h
staged_if_few schema query few budgets (Met r) below same ended h = h
staged_if_few schema query few budgets OutOfSplits below same ended h = absurd (ended refl)
staged_if_few schema query few budgets (OutOfStates w) below same ended h = wide-within schema query few budgets w below same h

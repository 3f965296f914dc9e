-- The answers to what a search decides.
use Rattle.std.specs.Prelude.{◌≡◌, ◌≤◌, ℕ, Bool, true, false, string_bytes}
use Rattle.policy_compile.specs.declared.outcome.Query.{Query}
use Rattle.policy_compile.specs.Limits.{IsWithinLimits}
use Rattle.policy_compile.specs.Queries.{IsQuery}
use Rattle.policy_compile.specs.Sets.{set_plan}
use Rattle.policy_model.specs.declared.set.StatementName.{StatementName}
use Rattle.policy_model.specs.Requests.{IsWellKept}
use Rattle.proof_text.specs.Laws.{HoldsSmallNumbers}
use Rattle.proof_text.specs.Spelling.{certificate_text}
use Rattle.proof_text.specs.declared.limits.TheConstants.{MOST_NUMBER}
use Rattle.refute_check.specs.Proofs.{Proof, proof_of}
use Rattle.request_json.specs.Laws.{RequestIsReadAgain}
use Rattle.run_inputs.specs.declared.one_set.OneSet.{OneSet}
use Rattle.run_inputs.specs.declared.shortage.Shortage.TheVariants.{Splits, States}
use Rattle.set_questions.specs.Changes.{SchemaSet}
use Rattle.set_questions.specs.Idle.{IsIdle, IsUsedBy}
use Rattle.set_questions.specs.Settling.{BothRunsFail}
use Rattle.set_questions.specs.declared.outcome.Use.{Use}
use Rattle.set_questions.specs.declared.outcome.Use.TheVariants as use_of
use Rattle.set_questions.specs.declared.settling.Settled.{Settled}
use Rattle.set_questions.specs.declared.settling.Settled.TheVariants as settled
use Rattle.staged_search.specs.declared.verdict.Verdict.{Verdict}
use Rattle.staged_search.specs.declared.verdict.Verdict.TheVariants as verdict
use Rattle.tree_search.specs.declared.outcome.Budgets.{Budgets}
use Rattle.tree_search.specs.declared.outcome.Decided.{Decided}
use Rattle.tree_search.specs.declared.outcome.Decided.TheVariants as decided
use Rattle.idle_answers.specs.declared.answer.UseAnswer.{UseAnswer}
use Rattle.idle_answers.specs.declared.answer.UseAnswer.TheVariants.{Used, Idle, Proved, Undecided}
use Rattle.idle_answers.specs.UseAnswers.{IsShortAt}

-- what a search decided settles the query
abbrev pub settled_of : Decided → Settled
settled_of (decided.Refuted r) = settled.Nobody r
settled_of (decided.Met q) = settled.Met q
settled_of decided.OutOfSplits = settled.OutOfSplits
settled_of (decided.OutOfStates w) = settled.OutOfStates (record { path = w.path; slot = w.slot; texts = w.texts })

-- the answer to an idle statement, with the certificate of the refutation where one is asked for
abbrev pub IsIdleAnswer : Bool → ℕ → Proof → UseAnswer → Type 0
IsIdleAnswer certified version proof Idle = certified ≡ false
IsIdleAnswer certified version proof (Proved text) =
    (certified ≡ true) × (string_bytes text ≡ certificate_text version proof) × HoldsSmallNumbers proof × (version ≤ MOST_NUMBER)
IsIdleAnswer certified version proof _ = ⊥

-- the answer to the use of a statement
abbrev pub IsAnswerToUse : Bool → ℕ → Budgets → Use → UseAnswer → Type 0
IsAnswerToUse certified version budgets (use_of.Used q) answer = (answer ≡ Used q) × IsWellKept q
IsAnswerToUse certified version budgets (use_of.Idle r) answer = IsIdleAnswer certified version (proof_of r.value) answer
IsAnswerToUse certified version budgets use_of.OutOfSplits answer = answer ≡ Undecided (Splits budgets.splits)
IsAnswerToUse certified version budgets (use_of.OutOfStates w) answer = answer ≡ Undecided (States budgets.states w.slot)

-- the query of the set, which is within its limits
pub record IsSetQuery (one : OneSet) (query : Query) : Type 0 where
  pub is : IsQuery (set_plan one.schema one.set) query
  pub within : IsWithinLimits (set_plan one.schema one.set)

-- the changes are those of the set under its schema
abbrev pub AreChangesOf : OneSet → SchemaSet → Type 0
AreChangesOf one of = (of.schema ≡ one.schema) × (of.set ≡ one.set)

-- the answer by the verdict on a query
abbrev pub IsAnswerByVerdict : Budgets → Verdict → UseAnswer → Type 0
IsAnswerByVerdict budgets verdict.Nobody answer = answer ≡ Idle
IsAnswerByVerdict budgets (verdict.Met q) answer = (answer ≡ Used q) × IsWellKept q
IsAnswerByVerdict budgets verdict.OutOfSplits answer = answer ≡ Undecided (Splits budgets.splits)
IsAnswerByVerdict budgets (verdict.OutOfStates w) answer = answer ≡ Undecided (States budgets.states w.slot)

-- the answer on a statement by a query that is asked in place of its change query: whether the statement is used, or a budget that is
-- too small for the query that was asked
abbrev pub IsStagedUseAnswer : Budgets → OneSet → StatementName → Query → UseAnswer → Type 0
IsStagedUseAnswer budgets one name query (Used q) = RequestIsReadAgain one.schema q × IsUsedBy one.schema one.set name q
IsStagedUseAnswer budgets one name query Idle = IsIdle one.schema one.set name
IsStagedUseAnswer budgets one name query (Proved text) = ⊥
IsStagedUseAnswer budgets one name query (Undecided (Splits n)) = (n ≡ budgets.splits) × BothRunsFail one.schema query n
IsStagedUseAnswer budgets one name query (Undecided (States n s)) = (n ≡ budgets.states) × IsShortAt one.schema n s query

-- What may be answered on a statement of a set.
use Rattle.std.specs.Prelude.{◌≡◌, ◌≤◌, ℕ, List, length, Bool, true, false, None, string_bytes}
use Rattle.findings.specs.Answers.{StatesFail}
use Rattle.findings.specs.declared.decide.Wide.{Wide}
use Rattle.policy_model.specs.declared.schema.Schema.{Schema}
use Rattle.policy_model.specs.declared.set.StatementName.{StatementName}
use Rattle.policy_model.specs.declared.test.Slot.{Slot}
use Rattle.policy_model.specs.StatementNames.{Named}
use Rattle.policy_compile.specs.declared.outcome.Query.{Query}
use Rattle.proof_text.specs.Faults.{proof_fault}
use Rattle.proof_text.specs.Laws.{IsSmall, limits_of}
use Rattle.proof_text.specs.Spelling.{certificate_text}
use Rattle.proof_text.specs.declared.limits.TheConstants.{MOST_PROOF_BYTES}
use Rattle.refute_check.specs.Proofs.{Proof}
use Rattle.request_json.specs.Laws.{RequestIsReadAgain}
use Rattle.run_inputs.specs.declared.one_set.OneSet.{OneSet}
use Rattle.run_inputs.specs.declared.shortage.Shortage.TheVariants.{Splits, States}
use Rattle.set_questions.specs.Idle.{IsIdle, IsUsedBy, EachNamed}
use Rattle.refute_check.specs.Queries.{ClosesAll}
use Rattle.set_questions.specs.Settling.{BothRunsFail}
use Rattle.set_questions.specs.Uses.{OfChange}
use Rattle.tree_search.specs.declared.outcome.Budgets.{Budgets}
use Rattle.idle_answers.specs.declared.answer.UseAnswer.{UseAnswer}
use Rattle.idle_answers.specs.declared.answer.UseAnswer.TheVariants.{Used, Idle, Proved, Undecided}

-- the text has no fault as the certificate of a query with these tests, and is that of no other refutation, since its numbers are
-- small
pub record IsCertificateReadAgain (schema : Schema) (q : Query) (proof : Proof) (text : List ℕ) : Type 0 where
  pub faultless : proof_fault (limits_of q.tests schema.version) text ≡ None
  pub small : IsSmall schema.version proof

-- the text is the certificate of a refutation that closes the query, and is read again as one, as long as it has at most as many bytes
-- as a certificate may have
pub record CertifiesChange (schema : Schema) (text : List ℕ) (q : Query) : Type 0 where
  pub proof : Proof
  pub spelled : text ≡ certificate_text schema.version proof
  pub closes : ClosesAll schema q proof
  pub readable : length text ≤ MOST_PROOF_BYTES → IsCertificateReadAgain schema q proof text

-- at a node of the plain run of the query the patterns of the slot have more product states
pub record IsShortAt (schema : Schema) (states : ℕ) (s : Slot) (q : Query) : Type 0 where
  pub wide : Wide
  pub slot : wide.slot ≡ s
  pub fails : StatesFail schema q states wide

-- A valid request that the set answers otherwise without the statement, kept so that its line is read again as it (a law). That there is
-- none: the statement is idle, with a certificate of its change query where one is asked for. Or a budget that is too small for the
-- change query.
abbrev pub IsUseAnswer : Bool → Budgets → OneSet → Named → UseAnswer → Type 0
IsUseAnswer certified budgets one named (Used q) = RequestIsReadAgain one.schema q × IsUsedBy one.schema one.set named.0 q
IsUseAnswer certified budgets one named Idle = (certified ≡ false) × IsIdle one.schema one.set named.0
IsUseAnswer certified budgets one named (Proved text) =
    (certified ≡ true) × IsIdle one.schema one.set named.0 ×
    OfChange one.schema one.set named (CertifiesChange one.schema (string_bytes text))
IsUseAnswer certified budgets one named (Undecided (Splits n)) =
    (n ≡ budgets.splits) × OfChange one.schema one.set named (λ q. BothRunsFail one.schema q n)
IsUseAnswer certified budgets one named (Undecided (States n s)) =
    (n ≡ budgets.states) × OfChange one.schema one.set named (IsShortAt one.schema n s)

-- as above, by the statement's name
abbrev pub IsUseAnswerAt : Bool → Budgets → OneSet → StatementName → UseAnswer → Type 0
IsUseAnswerAt certified budgets one name answer =
    EachNamed one.set name (λ s. IsUseAnswer certified budgets one (name, s) answer)

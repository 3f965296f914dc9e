-- What an evaluation of a request may answer.
use Rattle.std.specs.Prelude.{◌≡◌, ◌≢◌, ◌⊎◌, ⊤, ℕ, List, [], false, Option, Ok, Err}
use Rattle.policy_eval.specs.Deciding.{IsAllowedBy, IsFirstDeciding, IsNotGranted, IsNotGuarded}
use Rattle.policy_model.specs.StatementNames.{named_set}
use Rattle.policy_model.specs.declared.request.Request.{Request}
use Rattle.policy_model.specs.declared.schema.Schema.{Schema}
use Rattle.policy_model.specs.declared.set.PolicySet.{PolicySet}
use Rattle.policy_model.specs.Requests.{IsValid}
use Rattle.policy_model.specs.Sets.{Allows}
use Rattle.request_json.specs.RequestFiles.{request_from}
use Rattle.request_json.specs.declared.fault.RequestFault.{RequestFault}
use Rattle.run_inputs.specs.declared.printed.Printed.{Printed}
use Rattle.run_inputs.specs.declared.status.Status.TheVariants.{Refused, Holds, Fails}
use Rattle.run_inputs.specs.Printing.{PrintsText}
use Rattle.run_inputs.specs.declared.one_set.OneSet.{OneSet}
use Rattle.run_inputs.specs.OneSets.{IsOneSetRefusal, SomeOneSet}
use Rattle.run_inputs.specs.Refusals.{IsRefusedBy}
use Rattle.eval_answers.specs.declared.answer.Denial.{Denial}
use Rattle.eval_answers.specs.declared.answer.Denial.TheVariants.{ByStatement, NoStatement, NoGrant, NoGuard}
use Rattle.eval_answers.specs.declared.answer.Evaluation.{Evaluation}
use Rattle.eval_answers.specs.declared.answer.Evaluation.TheVariants.{Allowed, Denied}
use Rattle.eval_answers.specs.Sayings.{evaluation_status, evaluation_text, request_fault_line}

-- why the set doesn't allow the request: the first Deny statement that applies; no Allow statement of the grants that does, in a set
-- without guards or with some; or the first guard without one
abbrev pub IsDenial : Schema → PolicySet → Request → Denial → Type 0
IsDenial schema set r (ByStatement name) = IsFirstDeciding schema false r (named_set set) name
IsDenial schema set r NoStatement = IsNotGranted schema set r × (set.guards ≡ [])
IsDenial schema set r NoGrant = IsNotGranted schema set r × (set.guards ≢ [])
IsDenial schema set r (NoGuard g) = IsNotGuarded schema set r g

-- which of the two it is where no grant does
abbrev pub IsUngranted : PolicySet → Denial → Type 0
IsUngranted set NoStatement = set.guards ≡ []
IsUngranted set NoGrant = set.guards ≢ []
IsUngranted set _ = ⊥

-- whether the set allows the valid request, and what decides
abbrev pub IsEvaluation : Schema → PolicySet → Request → Evaluation → Type 0
IsEvaluation schema set r (Allowed name) = IsValid schema r × Allows schema set r × IsAllowedBy schema set r name
IsEvaluation schema set r (Denied denial) = IsValid schema r × (¬ Allows schema set r) × IsDenial schema set r denial

-- the bytes of the files: of the set, of the request, and of the schema where one is named
pub record EvaluationContents : Type 0 where
  pub set : List ℕ
  pub request : List ℕ
  pub schema : Option (List ℕ)

abbrev pub evaluation_contents : List ℕ → List ℕ → Option (List ℕ) → EvaluationContents
evaluation_contents set request schema = record { set = set; request = request; schema = schema }

-- under the schema the file stands for a request that satisfies P
pub record OfRequest (schema : Schema) (bytes : List ℕ) (P : Request → Type 0) : Type 0 where
  pub request : Request
  pub stands : request_from schema bytes ≡ Ok request
  pub holds : P request

-- the file stands for this request, which is valid under the schema
abbrev pub StandsForRequest : Schema → List ℕ → Request → Type 0
StandsForRequest schema bytes r = (request_from schema bytes ≡ Ok r) × IsValid schema r

-- the line and status of an evaluation that satisfies P
pub record PrintsEvaluation (P : Evaluation → Type 0) (p : Printed) : Type 0 where
  pub answer : Evaluation
  pub holds : P answer
  pub prints : PrintsText (evaluation_text answer) (evaluation_status answer) p

-- the request's first fault
pub record IsRequestFault (schema : Schema) (bytes : List ℕ) (p : Printed) : Type 0 where
  pub fault : RequestFault
  pub first : request_from schema bytes ≡ Err fault
  pub prints : PrintsText (request_fault_line fault) Refused p

-- of a set under the schema of its run, and of a request file: the request's first fault, or what decides
abbrev pub IsRequestPrinted : List ℕ → OneSet → Printed → Type 0
IsRequestPrinted bytes one p =
    IsRequestFault one.schema bytes p
    ⊎ OfRequest one.schema bytes (λ r. PrintsEvaluation (IsEvaluation one.schema one.set r) p)

-- of files: why they stand for no set, or what is printed of the set that they stand for
abbrev pub IsEvaluationPrinted : EvaluationContents → Printed → Type 0
IsEvaluationPrinted c p =
    IsRefusedBy (IsOneSetRefusal c.set c.schema) p ⊎ SomeOneSet c.set c.schema (λ one. IsRequestPrinted c.request one p)

-- ---- when a request is decided

-- any request
abbrev pub IsAnyRequest : Request → Type 0
IsAnyRequest r = ⊤

-- the files of an evaluation stand for a set with a schema and for a request under it
abbrev pub IsEvaluable : EvaluationContents → Type 0
IsEvaluable c = SomeOneSet c.set c.schema (λ one. OfRequest one.schema c.request IsAnyRequest)

-- such a request is allowed or denied
abbrev pub EvaluationsDecide : Type 0
EvaluationsDecide = (c : EvaluationContents) (p : Printed) →
    IsEvaluable c → IsEvaluationPrinted c p → (p.status ≡ Holds) ⊎ (p.status ≡ Fails)

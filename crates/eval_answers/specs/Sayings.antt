-- The texts and statuses of evaluations.
use Rattle.std.specs.Prelude.{ℕ, List, ◌++◌, codes, decimal}
use Rattle.policy_model.specs.declared.set.StatementName.{StatementName}
use Rattle.request_json.specs.declared.fault.RequestCode.{RequestCode}
use Rattle.request_json.specs.declared.fault.RequestCode.TheVariants.{Q1NotJson, Q2Shape, Q3BadValue, Q4NotValid}
use Rattle.request_json.specs.declared.fault.RequestFault.{RequestFault}
use Rattle.run_inputs.specs.declared.status.Status.{Status}
use Rattle.run_inputs.specs.declared.status.Status.TheVariants as status
use Rattle.run_inputs.specs.Parts.{element_text}
use Rattle.eval_answers.specs.declared.answer.Denial.{Denial}
use Rattle.eval_answers.specs.declared.answer.Denial.TheVariants.{ByStatement, NoStatement, NoGrant, NoGuard}
use Rattle.eval_answers.specs.declared.answer.Evaluation.{Evaluation}
use Rattle.eval_answers.specs.declared.answer.Evaluation.TheVariants.{Allowed, Denied}

abbrev pub request_word : RequestCode → List ℕ
request_word Q1NotJson = codes "Q1 NotJson"
request_word Q2Shape = codes "Q2 Shape"
request_word Q3BadValue = codes "Q3 BadValue"
request_word Q4NotValid = codes "Q4 NotValid"

-- a fault of a request file with its element
abbrev pub request_fault_text : RequestFault → List ℕ
request_fault_text fault = request_word fault.code ++ codes ": " ++ element_text fault.element

-- the line on a request file that stands for no request
abbrev pub request_fault_line : RequestFault → List ℕ
request_fault_line fault = codes "refused: request: " ++ request_fault_text fault ++ codes "\n"

-- the end of a line that names a statement, by its document and its number in it
unfoldable pub number_end : ℕ → List ℕ
number_end number = codes ", statement " ++ decimal number ++ codes "\n"

unfoldable pub statement_line : StatementName → List ℕ
statement_line name = codes "document " ++ decimal name.document ++ number_end name.statement

-- the line on a request that isn't allowed
unfoldable pub denial_text : Denial → List ℕ
denial_text (ByStatement name) = codes "denied: " ++ statement_line name
denial_text NoStatement = codes "denied: no statement applies\n"
denial_text NoGrant = codes "denied: no grant applies\n"
denial_text (NoGuard g) = codes "denied: guard " ++ decimal g ++ codes " allows nothing\n"

-- the line of an evaluation
unfoldable pub evaluation_text : Evaluation → List ℕ
evaluation_text (Allowed name) = codes "allowed: " ++ statement_line name
evaluation_text (Denied denial) = denial_text denial

abbrev pub evaluation_status : Evaluation → Status
evaluation_status (Allowed name) = status.Holds
evaluation_status (Denied denial) = status.Fails

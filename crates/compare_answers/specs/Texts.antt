-- The texts and statuses of the answers.
use Rattle.std.specs.Prelude.{ℕ, List, ◌++◌, codes, string_bytes}
use Rattle.proof_text.specs.Lines.{verdict_line}
use Rattle.request_json.specs.RequestTexts.{request_text}
use Rattle.run_inputs.specs.declared.status.Status.{Status}
use Rattle.run_inputs.specs.declared.status.Status.TheVariants as status
use Rattle.run_inputs.specs.CertificateLines.{accepted_line, not_closing_line, proof_fault_text}
use Rattle.run_inputs.specs.Parts.{shortage_text}
use Rattle.compare_answers.specs.declared.answer.CheckAnswer.{CheckAnswer}
use Rattle.compare_answers.specs.declared.answer.CheckAnswer.TheVariants.{Accepted, NotClosing, BadProof}
use Rattle.compare_answers.specs.declared.answer.ComparisonAnswer.{ComparisonAnswer}
use Rattle.compare_answers.specs.declared.answer.ComparisonAnswer.TheVariants.{NotMore, Proved, More, Undecided}

-- the whole text of an answer to a comparison
unfoldable pub comparison_text : ComparisonAnswer → List ℕ
comparison_text NotMore = verdict_line
comparison_text (Proved text) = verdict_line ++ string_bytes text
comparison_text (More q) = codes "more permissive\n" ++ request_text q ++ codes "\n"
comparison_text (Undecided shortage) = shortage_text shortage

abbrev pub comparison_status : ComparisonAnswer → Status
comparison_status NotMore = status.Holds
comparison_status (Proved text) = status.Holds
comparison_status (More q) = status.Fails
comparison_status (Undecided shortage) = status.Undecided

-- the line of an answer to a check
abbrev pub check_text : CheckAnswer → List ℕ
check_text Accepted = accepted_line
check_text (NotClosing line) = not_closing_line line
check_text (BadProof fault) = proof_fault_text fault

abbrev pub check_status : CheckAnswer → Status
check_status Accepted = status.Holds
check_status (NotClosing line) = status.BadProof
check_status (BadProof fault) = status.BadProof

use Rattle.proof_text.proofs.Files.{closing_proofs_have_no_fault_behind}
use Rattle.proof_text.proofs.laws.closing_proofs_have_no_fault_behind.Goals as goal

pub returns : goal.returns
returns c = closing_proofs_have_no_fault_behind

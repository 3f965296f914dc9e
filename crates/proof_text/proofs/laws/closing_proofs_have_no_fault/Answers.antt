use Rattle.proof_text.proofs.Files.{closing_proofs_have_no_fault}
use Rattle.proof_text.proofs.laws.closing_proofs_have_no_fault.Goals as goal

pub returns : goal.returns
returns c = closing_proofs_have_no_fault

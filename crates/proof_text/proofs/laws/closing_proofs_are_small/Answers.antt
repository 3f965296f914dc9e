use Rattle.proof_text.proofs.Files.{closing_proofs_are_small}
use Rattle.proof_text.proofs.laws.closing_proofs_are_small.Goals as goal

pub returns : goal.returns
returns c = closing_proofs_are_small

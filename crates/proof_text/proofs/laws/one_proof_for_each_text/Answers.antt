use Rattle.proof_text.proofs.Spelled.{one_proof_for_each_text}
use Rattle.proof_text.proofs.laws.one_proof_for_each_text.Goals as goal

pub returns : goal.returns
returns c = one_proof_for_each_text

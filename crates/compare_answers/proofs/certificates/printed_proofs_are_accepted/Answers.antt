use Rattle.compare_answers.proofs.Accepting.{printed_proofs_are_accepted}
use Rattle.compare_answers.proofs.certificates.printed_proofs_are_accepted.Goals as goal

pub returns : goal.returns
returns c = printed_proofs_are_accepted c.one_proof_for_each_text.ensures

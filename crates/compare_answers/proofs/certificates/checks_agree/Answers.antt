use Rattle.compare_answers.proofs.Accepting.{checks_agree}
use Rattle.compare_answers.proofs.certificates.checks_agree.Goals as goal

pub returns : goal.returns
returns c = checks_agree c.one_proof_for_each_text.ensures

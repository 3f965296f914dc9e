use Rattle.idle_answers.proofs.Accepting.{idle_proofs_are_accepted}
use Rattle.idle_answers.proofs.certificates.idle_proofs_are_accepted.Goals as goal

pub returns : goal.returns
returns c = idle_proofs_are_accepted

use Rattle.clause_proofs.proofs.Refuting.{refute}
use Rattle.clause_proofs.proofs.laws.clausal_proofs_refute.Goals as goal

pub returns : goal.returns
returns c = refute

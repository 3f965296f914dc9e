-- The lemma on clausal proofs that crates above cite.
use Rattle.clause_proofs.specs.Laws.{ClausalProofsRefute}
use Rattle.clause_proofs.proofs.Refuting as refuting

-- where lines refute a tree over the tests, no valid request makes it yes
pub clausal_refute : ClausalProofsRefute
clausal_refute = refuting.refute

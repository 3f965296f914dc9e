use Rattle.policy_compile.proofs.Covering.{query-covers}
use Rattle.policy_compile.proofs.meaning.refuted_queries_cover.Goals as goal

pub returns : goal.returns
returns c = λ schema first second r answers tree asks. query-covers schema first second r tree answers asks

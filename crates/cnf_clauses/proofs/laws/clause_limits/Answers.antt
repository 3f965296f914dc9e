use Rattle.std.proofs.Common.{refl}
use Rattle.cnf_clauses.proofs.laws.clause_limits.Goals as goal

pub returns : goal.returns
returns c = refl

use Rattle.cnf_clauses.proofs.Limits.{have-numbers-none}
use Rattle.cnf_clauses.proofs.making.Made.new.Goals as goal

pub invariant_of-result : goal.invariant_of-result
invariant_of-result c = rw c.new.ensures.items have-numbers-none

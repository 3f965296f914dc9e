use Rattle.cnf_clauses.proofs.Indexing.{indexed-none}
use Rattle.cnf_clauses.proofs.index.index_of.Goals as goal

pub clauses-init : goal.clauses-init
clauses-init c = indexed-none _ _

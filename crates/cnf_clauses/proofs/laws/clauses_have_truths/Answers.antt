use Rattle.cnf_clauses.proofs.Truths as truths
use Rattle.cnf_clauses.proofs.laws.clauses_have_truths.Goals as goal

pub returns : goal.returns
returns c = truths.truths-exist

use Rattle.cnf_clauses.proofs.Truths as truths
use Rattle.cnf_clauses.proofs.laws.satisfied_clauses_never_replay.Goals as goal

pub returns : goal.returns
returns c = truths.never-replay

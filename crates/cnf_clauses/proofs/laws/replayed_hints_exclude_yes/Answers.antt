use Rattle.cnf_clauses.proofs.Truths.{exclude-yes}
use Rattle.cnf_clauses.proofs.laws.replayed_hints_exclude_yes.Goals as goal

pub returns : goal.returns
returns c = exclude-yes

use Rattle.cnf_clauses.proofs.Convex.{convex}
use Rattle.cnf_clauses.proofs.laws.replays_are_convex.Goals as goal

pub returns : goal.returns
returns c = λ clauses hints few between many inside outside first second. convex clauses hints few between many inside outside first second

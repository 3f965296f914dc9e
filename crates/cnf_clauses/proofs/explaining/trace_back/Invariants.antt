use Rattle.std.proofs.Common.{◌≤◌}
use Rattle.cnf_clauses.specs.Explains.{ExplainsAt}
use Rattle.cnf_clauses.proofs.explaining.trace_back.Given as goal

abbrev pub invariant-back : goal.invariant-back
invariant-back l = (l.left ≤ l.upto) × ExplainsAt l.clauses l.path l.trail.decided l.left l.traced

abbrev pub decreases-back : goal.decreases-back
decreases-back l = l.left

use Rattle.cnf_clauses.proofs.Settling.{quiet-ends}
use Rattle.cnf_clauses.proofs.following.Following.is_quiet.Goals as goal

pub returns : goal.returns
returns c =
    rw (← c.self.view_is)
    (λ hints r. quiet-ends c.self.inside.clauses c.self.inside.trail.decided c.self.invariant.now.quiet c.self.inside.path hints c.self.invariant.now.answers r)

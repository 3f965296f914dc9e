use Rattle.std.proofs.Common.{arith, ◌∙◌}
use Rattle.cnf_clauses.proofs.Limits.{cut-push, cut-full, have-numbers-push}
use Rattle.cnf_clauses.proofs.making.Made.add.Goals as goal

pub returns-else-len-lt-MOST_CLAUSES : goal.returns-else-len-lt-MOST_CLAUSES
returns-else-len-lt-MOST_CLAUSES c = rw (← c.self.view_is) (cut-full c.self.inside.clauses.items c.args.clause (omega arith))

pub returns-in_ok-push : goal.returns-in_ok-push
returns-in_ok-push c = rw (← c.self.view_is) (c.in_ok-push.ensures.items ∙ cut-push c.self.inside.clauses.items c.args.clause (omega arith))

pub invariant_of-self : goal.invariant_of-self
invariant_of-self c = rw c.in_ok-push.ensures.items (have-numbers-push c.self.inside.clauses.items c.args.clause (omega arith))

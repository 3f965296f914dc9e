use Rattle.cnf_clauses.proofs.Keeping.{stands_at, kept_open}
use Rattle.cnf_clauses.proofs.watching.keeps_open.Goals as goal

pub returns-in-Open : goal.returns-in-Open
returns-in-Open c = λ kept.
    let first = c.in-Some.ensures.lookup in
    let second = c.in-Some-get.ensures.lookup in
    let lits = c.args.literals.now in
    kept_open c.args.decided.now lits c.in-Some.first.now c.in-Some-get.second.now
    (stands_at lits c.args.watch.first c.in-Some.first.now first.0 first.1)
    (stands_at lits c.args.watch.second c.in-Some-get.second.now second.0 second.1) c.in-Open.ensures

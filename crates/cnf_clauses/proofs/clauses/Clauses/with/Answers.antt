use Rattle.std.proofs.Common.{◌≡◌, length, arith}
use Rattle.cnf_clauses.proofs.Indexing.{indexed-with}
use Rattle.cnf_clauses.proofs.clauses.Clauses.with.Goals as goal

pub invariant_of-result : goal.invariant_of-result
invariant_of-result c =
    let count : c.len-number.result ≡ length c.self.inside.clauses.items = omega (arith, c.len-number.ensures) in
    let noted = rw (c.as_slice.ensures, count) at c.in_ok-add_clause.ensures in
    rw c.in_ok-push.ensures.items (indexed-with c.self.inside.clauses.items c.self.inside.index c.add_clause.new.index _ c.self.invariant noted)

use Rattle.std.proofs.Common.{arith}
use Rattle.cnf_clauses.proofs.Indexing.{again-ok, indexed-step, on_ok}
use Rattle.cnf_clauses.proofs.Limits.{have-numbers-fits}
use Rattle.cnf_clauses.proofs.index.add_next.Goals as goal

pub overflow_cast-number : goal.overflow_cast-number
overflow_cast-number c = let small = have-numbers-fits c.args.clauses.now c.args.i c.requires.numbers c.requires.within in omega arith

pub returns-then-stands_again : goal.returns-then-stands_again
returns-then-stands_again c =
    again-ok c.add_short.result c.args.clauses.now c.args.index.now c.add_short.new.index c.args.i c.index-clauses-i.result c.requires.within c.index-clauses-i.is c.requires.before
    (c.stands_again.ensures c.if-stands_again.true) (rw c.as_slice-literals.ensures at c.add_short.ensures.noted) c.add_short.ensures.kept c.add_short.ensures.lists

pub returns : goal.returns
returns c =
    on_ok c.add_clause.result _ _
    (indexed-step c.args.clauses.now c.args.index.now c.add_clause.new.index c.args.i c.index-clauses-i.result c.index-clauses-i.is c.requires.before)
    (rw c.as_slice-literals.ensures at c.add_clause.ensures)

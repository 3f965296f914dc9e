use Rattle.cnf_clauses.proofs.Indexing.{number-kept, on_ok}
use Rattle.cnf_clauses.proofs.index.add_number.Goals as goal

pub returns-clause-kept : goal.returns-clause-kept
returns-clause-kept c =
    on_ok c.add_last.result _ _
    (number-kept c.args.lists.now.items c.fill_to.new.items.items c.args.variable c.index_mut.result.now c.add_last.new.list
    c.in_ok-fill_to.ensures.room (rw c.new.ensures at c.in_ok-fill_to.ensures.same) c.index_mut.ensures.value)
    c.add_last.ensures.kept

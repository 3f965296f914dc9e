use Rattle.cnf_clauses.proofs.Indexing.{on_ok}
use Rattle.cnf_clauses.proofs.Tying.{tie-not}
use Rattle.cnf_clauses.proofs.numbering.tie_not.Goals as goal

pub returns : goal.returns
returns c =
    on_ok c.add_two-2.result _ _
    (λ second. tie-not c.args.next c.variable_of-inside.result _ c.args.made.now c.add_two.new.self c.add_two-2.new.self c.variable_of-inside.ensures c.in_ok-add_two.ensures second)
    c.add_two-2.ensures

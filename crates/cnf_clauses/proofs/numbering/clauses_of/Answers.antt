use Rattle.formula_tree.specs.Trees.{tree_of}
use Rattle.cnf_clauses.specs.Numbering.{clauses_of}
use Rattle.cnf_clauses.proofs.Tying.{make-root, if_ok-same}
use Rattle.cnf_clauses.proofs.numbering.clauses_of.Goals as goal

pub returns : goal.returns
returns c =
    if_ok-same c.indexed.result c.make.new.made (clauses_of c.args.tests (tree_of c.args.formula.now))
    (make-root c.args.tests c.variable_of.result (tree_of c.args.formula.now) c.new-made.result c.add_one.new.self c.make.new.made
    c.variable_of.ensures c.new-made.ensures c.in_ok-add_one.ensures c.in_ok-make.ensures)
    c.indexed.ensures

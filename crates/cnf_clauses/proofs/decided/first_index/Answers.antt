use Rattle.cnf_clauses.proofs.Deciding.{index-there, index-more}
use Rattle.cnf_clauses.proofs.decided.first_index.Goals as goal

pub returns-then-literal-variable-clause-there : goal.returns-then-literal-variable-clause-there
returns-then-literal-variable-clause-there c =
    index-there c.args.literals.now c.literals.index c.args.variable _ c.literals-test.true c.literals.invariant c.if-literal-variable.true

pub literals-preserved : goal.literals-preserved
literals-preserved c = index-more c.args.literals.now c.literals.index c.args.variable _ c.literals-test.true c.literals.invariant c.if-literal-variable.false

use Rattle.cnf_clauses.proofs.Limits.{cut-none, pairs-step, pairs-end}
use Rattle.cnf_clauses.proofs.making.Made.add_pairs.Goals as goal

pub pairs-init : goal.pairs-init
pairs-init c = cut-none c.args.self.now

pub pairs-preserved : goal.pairs-preserved
pairs-preserved c =
    pairs-step c.args.self.now c.pairs.self c.add_two.new.self c.args.literal c.args.value c.args.variables.now c.pairs.variable-index _
    c.pairs-test.true c.pairs.invariant c.in_ok-add_two.ensures

pub returns : goal.returns
returns c = pairs-end c.args.self.now c.pairs.self c.args.literal c.args.value c.args.variables.now c.pairs.variable-index c.pairs-test.false c.pairs.invariant

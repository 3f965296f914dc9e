use Rattle.findings.proofs.Compared.{comparable-above, comparable-equal, comparable-finer}
use Rattle.findings.proofs.order.are_comparable.Goals as goal

pub returns-then-eq : goal.returns-then-eq
returns-then-eq c = comparable-equal c.args.strata.now c.args.one.now c.args.other.now c.eq.result c.eq.ensures (cc)

pub returns-then-is_finer : goal.returns-then-is_finer
returns-then-is_finer c = comparable-finer c.args.strata.now c.args.one.now c.args.other.now c.eq.result c.is_finer.result c.eq.ensures (cc) c.is_finer.ensures (cc)

pub returns : goal.returns
returns c = comparable-above c.args.strata.now c.args.one.now c.args.other.now c.eq.result c.is_finer.result c.eq.ensures (cc) c.is_finer.ensures (cc) c.is_finer-2.result c.is_finer-2.ensures

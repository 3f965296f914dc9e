use Rattle.std.proofs.Common.{arith}
use Rattle.findings.proofs.Standings.{alone-all, alone-here, alone-next}
use Rattle.findings.proofs.standing.first_alone.Goals as goal

pub pairs-init : goal.pairs-init
pairs-init c = λ region i p made less at. absurd (omega (arith, less))

pub returns-then-not-branch : goal.returns-then-not-branch
returns-then-not-branch c = alone-here c.args.validity.now c.args.base.now c.args.strata.now c.args.pairs.now c.pairs.i c.in_ok-stands_alone.field-0 (omega arith) c.pairs.invariant c.in_ok-stands_alone.ensures (cc)

pub pairs-preserved : goal.pairs-preserved
pairs-preserved c = alone-next c.args.validity.now c.args.base.now c.args.strata.now c.args.pairs.now c.pairs.i c.in_ok-stands_alone.field-0 c.pairs.invariant c.in_ok-stands_alone.ensures (cc)

pub returns : goal.returns
returns c = alone-all c.args.validity.now c.args.base.now c.args.strata.now c.args.pairs.now c.pairs.i (omega arith) (omega arith) c.pairs.invariant

use Rattle.std.proofs.Common.{arith}
use Rattle.findings.proofs.Compared.{first-here, first-later, first-none}
use Rattle.findings.proofs.order.first_compared.Goals as goal

pub pairs-init : goal.pairs-init
pairs-init c = λ schema tests are i j p q less behind at there compared. absurd (omega (arith, less))

pub is_compared_behind-requires-clause-within : goal.is_compared_behind-requires-clause-within
is_compared_behind-requires-clause-within c = omega (arith, c.requires.most)

pub returns-then-is_compared_behind : goal.returns-then-is_compared_behind
returns-then-is_compared_behind c = first-here c.args.strata.now c.args.pairs.now c.pairs.i c.pairs.invariant c.args.most c.is_compared_behind.result (omega arith) c.is_compared_behind.ensures (cc)

pub pairs-preserved : goal.pairs-preserved
pairs-preserved c = first-later c.args.strata.now c.args.pairs.now c.pairs.i c.pairs.invariant c.is_compared_behind.result c.is_compared_behind.ensures (cc)

pub returns : goal.returns
returns c = first-none c.args.strata.now c.args.pairs.now c.pairs.i c.pairs.invariant c.args.most (omega arith)

use Rattle.std.proofs.Common.{arith}
use Rattle.findings.proofs.Standings.{rises-first}
use Rattle.findings.proofs.standing.rises.Goals as goal

pub returns-then-i-eq0 : goal.returns-then-i-eq0
returns-then-i-eq0 c = rises-first c.args.pairs.now c.args.i (omega arith)

use Rattle.std.proofs.Common.{arith}
use Rattle.proof_text.proofs.Bytes.{line-to-break, line-to-end}
use Rattle.proof_text.proofs.location.line_length.Goals as goal

pub returns-then-at-bytes-clause-line : goal.returns-then-at-bytes-clause-line
returns-then-at-bytes-clause-line c = line-to-end c.args.bytes.now c.first_at-at.result c.requires c.first_at-at.ensures.first c.if-at-bytes.true

pub returns-clause-line : goal.returns-clause-line
returns-clause-line c = line-to-break c.args.bytes.now c.first_at-at.result c.first_at-at.ensures.first (omega arith)

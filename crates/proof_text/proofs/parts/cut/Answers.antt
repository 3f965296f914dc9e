use Rattle.std.proofs.Common.{arith}
use Rattle.proof_text.proofs.Bytes.{cut-none, cut-some}
use Rattle.proof_text.proofs.parts.cut.Goals as goal

pub returns-then-at-text-clause-parts : goal.returns-then-at-text-clause-parts
returns-then-at-text-clause-parts c = cut-none c.args.between c.args.text.now c.first_at-at.result c.first_at-at.ensures.first c.if-at-text.true

pub returns-clause-parts : goal.returns-clause-parts
returns-clause-parts c = cut-some c.args.between c.args.text.now c.first_at-at.result c.split_at.result.0.now c.split_at-2.result.1.now c.first_at-at.ensures.first (omega arith) c.split_at.ensures.front c.split_at-2.ensures.back

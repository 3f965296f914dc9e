use Rattle.std.proofs.Common.{arith, eq-eqb}
use Rattle.proof_text.proofs.Bytes.{first-is}
use Rattle.proof_text.proofs.parts.first_at.Goals as goal

pub returns-then-b-byte-clause-first : goal.returns-then-b-byte-clause-first
returns-then-b-byte-clause-first c = first-is c.args.byte c.args.text.now c.loop-i.i (omega arith) c.loop-i.invariant (λ h. eq-eqb _ _ c.if-b-byte.true)

pub returns-clause-first : goal.returns-clause-first
returns-clause-first c = first-is c.args.byte c.args.text.now _ (omega arith) (λ k h. c.loop-i.invariant k (omega arith)) (λ h. absurd (omega arith))

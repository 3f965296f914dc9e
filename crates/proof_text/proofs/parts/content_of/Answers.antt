use Rattle.proof_text.proofs.Endings.{content-none, content-some}
use Rattle.proof_text.proofs.parts.content_of.Goals as goal

pub returns-then-last-eq10 : goal.returns-then-last-eq10
returns-then-last-eq10 c = content-some c.args.line.now c.in-Some.content.now c.in-Some.last.now c.in-Some.ensures.cases.0 c.if-last-eq10.true

pub returns : goal.returns
returns c = content-none c.args.line.now c.in-Some.content.now c.in-Some.last.now c.in-Some.ensures.cases.0 c.if-last-eq10.false

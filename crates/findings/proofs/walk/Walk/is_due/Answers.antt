use Rattle.std.proofs.Common.{inl}
use Rattle.findings.proofs.Passing.{due-or-passed}
use Rattle.findings.proofs.walk.Walk.is_due.Goals as goal

pub returns-then-is_among : goal.returns-then-is_among
returns-then-is_among c = inl (c.is_among.ensures.0 c.if-is_among.true)

pub returns : goal.returns
returns c = due-or-passed c.args.strata.now.dimensions c.args.self.now c.args.finding.now c.in_ok-due.due c.is_among.result c.if-is_among.false c.is_among.ensures c.in_ok-due.ensures

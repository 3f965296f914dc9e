use Rattle.findings.proofs.less.Less.of.Goals as goal

pub returns : goal.returns
returns c = record { tests = c.in_ok-query.ensures.tests; below = c.in_ok-query.ensures.below; same = c.in_ok-query.ensures.same }

use Rattle.findings.proofs.Plans.{nothing-asked, test-asked}
use Rattle.findings.proofs.numbering.Numbering.ask.Goals as goal

pub returns-in_default : goal.returns-in_default
returns-in_default c = nothing-asked c.args.test c.args.self.now.tests.keys c.in_ok-new.field-0.value c.in_default.not-Some c.in_ok-new.ensures.ok

pub returns : goal.returns
returns c = test-asked c.args.test c.in-Some.test c.in_ok-number.number c.args.self.now.tests.keys c.number.new.self.tests.keys c.in_ok-new-2.field-0.value c.in-Some.is c.in_ok-number.ensures c.in_ok-new-2.ensures.ok

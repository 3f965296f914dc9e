use Rattle.findings.proofs.Sets.{test-number}
use Rattle.findings.proofs.numbering.Numbering.number.Goals as goal

pub returns : goal.returns
returns c =
    let stored = c.in_ok-number.ensures.stored in
    test-number c.args.self.now.tests.keys c.insert_full.new.self.keys c.args.test stored.0 c.in_ok-number.number c.in_ok-number.ensures.keys stored.1 stored.2

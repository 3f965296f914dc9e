use Rattle.std.proofs.Common.{take}
use Rattle.findings.specs.Asked.{AreNumbersOf}
use Rattle.findings.proofs.numbering.Numbering.numbers.Given as goal

abbrev pub invariant-tests : goal.invariant-tests
invariant-tests l = AreNumbersOf l.initial.self.tests.keys l.self.tests.keys (take l.test-index l.test-items) l.numbers.items

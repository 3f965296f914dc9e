use Rattle.std.proofs.Common.{take}
use Rattle.search_parts.specs.Needs.{AreAnswersTo}
use Rattle.search_parts.proofs.leaves.answers_to.Given as goal

abbrev pub invariant-tests : goal.invariant-tests
invariant-tests l = AreAnswersTo (take l.test-index l.core) l.path l.answers

use Rattle.search_parts.specs.Least.{AreChosenBelow}
use Rattle.search_parts.proofs.least.chosen.Given as goal

abbrev pub invariant-tests : goal.invariant-tests
invariant-tests l = AreChosenBelow l.path l.first l.second l.test l.answers

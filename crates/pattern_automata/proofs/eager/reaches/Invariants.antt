use Rattle.pattern_automata.specs.Tree.{IsTree}
use Rattle.pattern_automata.proofs.eager.reaches.Given as goal

abbrev pub invariant-loop-round : goal.invariant-loop-round
invariant-loop-round l = IsTree l.wants.patterns l.search.found l.search.parents.items

use Rattle.std.proofs.Common.{◌<◌, length}
use Rattle.pattern_automata.specs.Tree.{IsTree}
use Rattle.pattern_automata.proofs.eager.try_moves.Given as goal

abbrev pub invariant-loop-k : goal.invariant-loop-k
invariant-loop-k l = IsTree l.wants.patterns l.search.found l.search.parents.items × (l.i < length l.search.found)

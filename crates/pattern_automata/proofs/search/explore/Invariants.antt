use Rattle.pattern_automata.specs.Moves.{characters_of}
use Rattle.pattern_automata.specs.Tree.{IsLeftOpen}
use Rattle.pattern_automata.proofs.search.explore.Given as goal

abbrev pub invariant-loop-i : goal.invariant-loop-i
invariant-loop-i l =
    IsLeftOpen l.wants.patterns l.machine.ends.items l.wants.clauses (characters_of l.machine.moves.items) l.search.found l.search.parents.items l.i l.limit

use Rattle.std.proofs.Common.{◌<◌, length, take}
use Rattle.pattern_automata.specs.Moves.{characters_of}
use Rattle.pattern_automata.specs.Tree.{IsBase, IsSearch}
use Rattle.pattern_automata.proofs.search.expand.Given as goal

abbrev pub invariant-loop-k : goal.invariant-loop-k
invariant-loop-k l =
    IsBase l.wants.patterns l.machine.ends.items l.wants.clauses l.search.found l.search.parents.items l.limit
    × (l.i < length l.search.found)
    × IsSearch l.wants.patterns l.machine.ends.items l.wants.clauses (characters_of l.machine.moves.items) l.search.found l.i (characters_of (take l.k l.machine.moves.items))

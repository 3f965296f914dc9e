use Rattle.std.proofs.Common.{◌≤◌, ◌<◌, ◌-◌}
use Rattle.pattern_automata.specs.Moves.{characters_of}
use Rattle.pattern_automata.specs.Tree.{IsLeftOpen}
use Rattle.pattern_automata.proofs.search.solve_on.Given as goal

abbrev pub decreases-farther : goal.decreases-farther
decreases-farther l = l.limit - l.from

abbrev pub invariant-farther : goal.invariant-farther
invariant-farther l =
    IsLeftOpen l.wants.patterns l.machine.ends.items l.wants.clauses (characters_of l.machine.moves.items) l.search.found l.search.parents.items l.from l.limit
    × (l.from ≤ l.limit) × (l.from < l.to)

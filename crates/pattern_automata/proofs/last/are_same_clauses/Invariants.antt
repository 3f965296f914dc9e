use Rattle.std.proofs.Common.{◌≡◌, take}
use Rattle.pattern_automata.proofs.last.are_same_clauses.Given as goal

abbrev pub invariant-clauses : goal.invariant-clauses
invariant-clauses l = take l.i l.clauses ≡ take l.i l.others

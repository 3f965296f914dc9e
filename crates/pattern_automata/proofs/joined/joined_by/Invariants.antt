use Rattle.std.proofs.Common.{All}
use Rattle.std.specs.Char.{IsScalar}
use Rattle.pattern_automata.proofs.joined.joined_by.Given as goal

abbrev pub invariant-loop-pattern : goal.invariant-loop-pattern
invariant-loop-pattern l = All IsScalar l.front.items

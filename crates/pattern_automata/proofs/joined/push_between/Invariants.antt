use Rattle.std.proofs.Common.{All}
use Rattle.std.specs.Char.{IsScalar}
use Rattle.pattern_automata.proofs.joined.push_between.Given as goal

abbrev pub invariant-loop-place : goal.invariant-loop-place
invariant-loop-place l = All IsScalar l.text.items

use Rattle.std.proofs.Common.{All}
use Rattle.std.specs.Char.{IsScalar}
use Rattle.pattern_automata.proofs.proposal.shortest.Given as goal

abbrev pub invariant-loop-piece : goal.invariant-loop-piece
invariant-loop-piece l = All IsScalar l.chars.items

use Rattle.std.proofs.Common.{All, Any, take}
use Rattle.pattern_automata.specs.Closed.{IsLiteralMet}
use Rattle.pattern_automata.proofs.proposal.all_met.Given as goal

abbrev pub invariant-loop-clause : goal.invariant-loop-clause
invariant-loop-clause l = All (Any (IsLiteralMet l.patterns l.text)) (take l.clause-index l.clauses)

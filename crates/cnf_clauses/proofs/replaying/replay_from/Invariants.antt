use Rattle.std.proofs.Common.{drop}
use Rattle.cnf_clauses.proofs.Hinting.{Alike}
use Rattle.cnf_clauses.proofs.replaying.replay_from.Given as goal

abbrev pub invariant-hints : goal.invariant-hints
invariant-hints l = Alike l.clauses l.initial.decided l.hints l.decided (drop l.i l.hints)

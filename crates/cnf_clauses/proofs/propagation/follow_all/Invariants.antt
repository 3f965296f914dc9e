use Rattle.std.proofs.Common.{take, false}
use Rattle.cnf_clauses.specs.Propagates.{GoesOn, AreQuiet}
use Rattle.cnf_clauses.specs.Reasons.{Derives}
use Rattle.cnf_clauses.proofs.propagation.follow_all.Given as goal

abbrev pub invariant-next : goal.invariant-next
invariant-next l =
    GoesOn l.clauses l.initial.hints l.initial.decided l.hints l.decided × AreQuiet l.clauses (take l.next l.decided) l.decided
    × Derives l.clauses l.initial.hints l.initial.decided l.hints l.decided false

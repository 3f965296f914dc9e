use Rattle.std.proofs.Common.{drop}
use Rattle.clause_proofs.proofs.Stepping.{RefuteAlike}
use Rattle.clause_proofs.proofs.checking.refute_clauses.Given as goal

abbrev pub invariant-lines : goal.invariant-lines
invariant-lines l = RefuteAlike l.subject.schema.now l.subject.query.now.tests l.fn.clauses l.lines l.clauses (drop l.line-index l.lines)
